use Rattle.std.proofs.Common.{◌≡◌, suc, ◌+◌, ◌-◌, Err, arith, sym, ◌∙◌, rules}
use Rattle.table.specs.Test.{leftmost}
use Rattle.table.proofs.TestLaws.{leftmost-none, leftmost_pass, leftmost_stop}
use Rattle.room.specs.Picture.{plane_test}
use Rattle.room.proofs.picture.test_planes.Goals as goal
use Rattle.room.proofs.picture.test_planes.Goals.{else-loop-k-test, then-loop-k-test+in_ok-test_plane+else-k-planes}

pub returns-in_err-test_plane : goal.returns-in_err-test_plane
returns-in_err-test_plane c =
    let a = c.args in
    let k = c.loop-k.k in
    let test = plane_test a.n a.h a.room.now a.b a.z in
    let more : a.planes + 1 - k ≡ suc (a.planes + 1 - (k + 1)) = omega arith in
    let stopped : Err c.in_err-test_plane.field-0.0 ≡ leftmost test 1 a.planes =
    sym (leftmost_stop test k _ _ more _ (sym c.test_plane.ensures ∙ c.in_err-test_plane.was)) ∙ c.loop-k.invariant in
    search rules

pub loop-k-preserved : goal.loop-k-preserved
loop-k-preserved c =
    let a = c.args in
    let k = c.loop-k.k in
    let more : a.planes + 1 - k ≡ suc (a.planes + 1 - (k + 1)) = omega arith in
    sym (leftmost_pass (plane_test a.n a.h a.room.now a.b a.z) k _ _ more (sym c.test_plane.ensures ∙ c.in_ok-test_plane.was)) ∙ c.loop-k.invariant

pub returns : goal.returns
returns c =
    let a = c.args in
    let test = plane_test a.n a.h a.room.now a.b a.z in
    let k = c.loop-k.k in
    elim c.loop-k-test.branch [
      | else-loop-k-test w ↦ sym (leftmost-none test k _ (omega (arith, w.loop-k-test.false))) ∙ c.loop-k.invariant
      | then-loop-k-test+in_ok-test_plane+else-k-planes w ↦
          let more : a.planes + 1 - k ≡ suc (a.planes + 1 - (k + 1)) = omega (arith, w.loop-k-test.true) in
          sym (leftmost_pass test k _ _ more (sym w.test_plane.ensures ∙ w.in_ok-test_plane.was) ∙ leftmost-none test (k + 1) _ (omega (arith, w)))
          ∙ c.loop-k.invariant
    ]
