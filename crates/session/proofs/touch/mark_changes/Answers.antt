use Rattle.std.proofs.Common.{◌≡◌, ap, ◌∙◌, ◌&&◌, ◌||◌, List, take, arith}
use Rattle.scene.specs.declared.Entry.{Entry}
use Rattle.std.proofs.lemmas.List.{take_all}
use Rattle.scene.specs.Painting.{covers}
use Rattle.scene.specs.Steps.{some}
use Rattle.stored.specs.Bytes.{entries}
use Rattle.replay.specs.Tables.{room_of_tables}
use Rattle.session.specs.Plans.{flagged, leaves}
use Rattle.session.proofs.TouchLaws.{leaves-more, leaves_none}
use Rattle.session.proofs.touch.mark_changes.Goals as goal

-- `session::touch::mark_changes` meets its contract. Assumes nothing.

pub loop-f-init : goal.loop-f-init
loop-f-init c =
    let A = c.args in
    λ v g l h. h ∙ leaves_none (room_of_tables A.objects.rows.now v A.objects.size) A.boxes A.e g 128 l

pub loop-f-preserved : goal.loop-f-preserved
loop-f-preserved c =
    let A = c.args in
    let i = c.loop-f.f-index in
    λ w g l h.
    let T = room_of_tables A.objects.rows.now w A.objects.size in
    c.mark_gone.ensures w (λ k. g k || some (leaves T A.boxes A.e k) (take i (entries A.s))) l (c.loop-f.invariant w g l h)
    ∙ leaves-more T A.boxes A.e g (entries A.s) i _ 128 l c.loop-f-test.true

pub returns : goal.returns
returns c =
    let A = c.args in
    let es = entries A.s in
    λ v.
    let T = room_of_tables A.objects.rows.now v A.objects.size in
    let all : take c.loop-f.f-index es ≡ es = take_all c.loop-f.f-index es (omega arith) in
    c.loop-f.invariant v (λ k. A.boxes && covers T A.e k) A.strips.now (c.mark_strips.ensures v)
    ∙ ap (λ (l : List Entry). flagged (λ k. (A.boxes && covers T A.e k) || some (leaves T A.boxes A.e k) l) 128 A.strips.now) all
