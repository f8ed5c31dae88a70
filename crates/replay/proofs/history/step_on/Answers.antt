use Rattle.std.proofs.Common.{[], sym, ◌∙◌, arith}
use Rattle.stored.specs.Bytes.{entries}
use Rattle.replay.specs.Places.{scene_in}
use Rattle.replay.proofs.JudgedLaws.{judged_hide, step_none, step_draw}
use Rattle.replay.proofs.history.step_on.Goals as goal

-- `replay::history::step_on` meets its contract. Assumes nothing.

pub returns-then-v-eq11 : goal.returns-then-v-eq11
returns-then-v-eq11 c =
    let verdict = c.verdict-v in
    let A = c.args in let t = A.tables in (
      λ n few. rw c.in-Draw.is (step_none t.objects.rows.now t.verdicts.now t.objects.size n few (scene_in A.places.now (entries A.s)) c.in-Draw.object
          c.in-Draw.state _ verdict.result c.refused.result verdict.ensures c.if-v-eq11.true c.refused.ensures.0),
      omega (arith, c.refused.ensures.1),
    )

pub drawn-requires : goal.drawn-requires
drawn-requires c =
    let p = c.requires in
    let at = c.spot_of-at.ensures.spot [] in
    (p.1, at.left, at.upper)

pub returns-in-Hide : goal.returns-in-Hide
returns-in-Hide c =
    let A = c.args in let t = A.tables in (
      λ n few. rw c.in-Hide.is (c.hidden.ensures.0 ∙ sym (judged_hide t.objects.rows.now t.verdicts.now t.objects.size n few
          (scene_in A.places.now (entries A.s)) c.in-Hide.object)),
      c.hidden.ensures.1,
    )

pub returns-else-v-eq11 : goal.returns-else-v-eq11
returns-else-v-eq11 c =
    let at = c.spot_of-at in
    let verdict = c.verdict-v in
    let A = c.args in let t = A.tables in (
      λ n few. rw c.in-Draw.is (step_draw t.objects.rows.now t.verdicts.now t.objects.size n few (scene_in A.places.now (entries A.s)) c.in-Draw.object
          c.in-Draw.state _ verdict.result at.result c.drawn.result verdict.ensures c.if-v-eq11.false
          (at.ensures.spot (entries A.s)) (c.drawn.ensures.0 t.verdicts.now)),
      c.drawn.ensures.1,
    )
