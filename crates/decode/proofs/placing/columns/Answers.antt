use Rattle.std.proofs.Common.{◌≡◌, ◌∙◌, true, ◌+◌, ◌*◌, le_antisymm, arith}
use Rattle.number.proofs.BufferLaws.{drop_more}
use Rattle.strip.proofs.PictureLaws.{placed-over}
use Rattle.decode.proofs.placing.columns.Goals as goal

pub loop-y-preserved : goal.loop-y-preserved
loop-y-preserved c =
    let l = c.loop-y in
    let done = c.row.ensures in
    let next : 8 * (l.y + 1) ≡ 8 * l.y + 8 = omega arith in
    (rw next (done.rest_stays ∙ drop_more _ _ (8 * l.y) 8 l.invariant.0), rw next done.row_done)

pub returns : goal.returns
returns c =
    let a = c.args in
    let l = c.loop-y in
    let done : l.y ≡ a.h = le_antisymm l.auto.y-end c.loop-y-test.false in
    placed-over true a.h a.src.now l.out a.out.now (rw done at l.invariant.1) (rw done at l.invariant.0)
