use Rattle.session.proofs.TouchLaws.{hide_touches, draw_touches}
use Rattle.stored.specs.Bytes.{entries}
use Rattle.replay.specs.Places.{scene_in}
use Rattle.replay.specs.Tables.{room_of_tables}
use Rattle.session.proofs.touch.touched.Goals as goal

-- `session::touch::touched` meets its contract. Assumes nothing.

pub returns-in-Hide : goal.returns-in-Hide
returns-in-Hide c =
    let A = c.args in
    λ v.
    rw c.in-Hide.is
    (hide_touches (room_of_tables A.objects.rows.now v A.objects.size) (scene_in A.places.now (entries A.s)) c.entry_at-e.result
    (record { object = c.in-Hide.object; state = 0; x = 0; y = 0 }) 128 A.strips.now _ c.entry_at-e.ensures (c.mark_changes.ensures v))

pub returns-in-Draw : goal.returns-in-Draw
returns-in-Draw c =
    let drawn = c.entry_at-e-in-Draw in
    let at = c.spot_of-at in
    let A = c.args in
    λ v.
    rw c.in-Draw.is
    (draw_touches (room_of_tables A.objects.rows.now v A.objects.size) (scene_in A.places.now (entries A.s)) c.in-Draw.object c.in-Draw.state c.in-Draw.place
    at.result drawn.result 128 A.strips.now _ (at.ensures.spot (entries A.s)) drawn.ensures (c.mark_changes-in-Draw.ensures v))
