use Rattle.std.proofs.Common.{length, length-set, arith, ◌∙◌, ◌<◌}
use Rattle.strip_test.proofs.LeapLaws.{widened_rows, row_stored}
use Rattle.strip_test.proofs.leap.widen_rows.Goals as goal

pub loop-x-preserved : goal.loop-x-preserved
loop-x-preserved c =
    let l = c.loop-x in let a = c.args in
    let room : l.x < length l.out = omega (arith, l.invariant.0) in (
      length-set l.out l.x c.widen.result ∙ l.invariant.0,
      row_stored a.w a.rows.now l.out l.x c.widen.result room c.widen.ensures l.invariant.1,
    )

pub returns : goal.returns
returns c =
    let l = c.loop-x in let a = c.args in
    (omega (arith, l.invariant.0), λ second rows. widened_rows second a.w a.rows.now l.out rows (λ x h. l.invariant.1 x (omega (arith, h))))
