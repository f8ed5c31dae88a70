use Rattle.std.proofs.Common.{length, arith}
use Rattle.replay.specs.Replay.{room_of}
use Rattle.stored.specs.Bytes.{entries}
use Rattle.replay.specs.Places.{scene_in}
use Rattle.replay.proofs.JudgedLaws.{next-refused, next_step, judged-zero}
use Rattle.replay.proofs.PlacesLaws.{accepted_near}
use Rattle.replay.proofs.history.next.Goals as goal

-- `replay::history::next` meets its contract. Assumes nothing.

pub returns-then-s-ne0 : goal.returns-then-s-ne0
returns-then-s-ne0 c =
    let A = c.args in
    λ g h lt R. next-refused (room_of A.tables) g h A.step A.places.now A.s R c.if-s-ne0.true

pub store_step-requires : goal.store_step-requires
store_step-requires c =
    let t = c.step_on-t in
    let A = c.args in
    let sc = scene_in A.places.now (entries A.s) in (
      c.requires.0,
      accepted_near A.tables.objects.rows.now A.tables.verdicts.now A.tables.objects.size A.tables.objects.sizes 0 sc A.step
          (judged-zero (room_of A.tables) 0 sc A.step t.result (t.ensures.0 0 (omega arith))
          c.if-t-eq0.true),
    )

pub returns-then-t-eq0 : goal.returns-then-t-eq0
returns-then-t-eq0 c =
    let t = c.step_on-t in
    let A = c.args in
    λ g h lt R. next_step (room_of A.tables) g h A.step A.places.now A.s R c.if-s-ne0.false t.result
    _ (t.ensures.0 (length h) lt) t.ensures.1 (λ z. c.store_step.ensures (entries A.s))

pub returns-else-t-eq0 : goal.returns-else-t-eq0
returns-else-t-eq0 c =
    let t = c.step_on-t in
    let A = c.args in
    λ g h lt R. next_step (room_of A.tables) g h A.step A.places.now A.s R c.if-s-ne0.false t.result
    _ (t.ensures.0 (length h) lt) t.ensures.1 (λ z. absurd (c.if-t-eq0.false z))
