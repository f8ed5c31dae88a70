use Rattle.std.proofs.Common.{true, arith}
use Rattle.strip_test.proofs.LeapLaws.{leapt_none, leapt_run}
use Rattle.strip_test.proofs.leap.run_to.Goals as goal

pub returns-then-total-s : goal.returns-then-total-s
returns-then-total-s c =
    let a = c.args in
    (omega arith, omega arith, λ w b sees room. leapt_none true w a.total b a.s (omega (arith, room.pixels)) (omega (arith, room.bits)))

pub returns : goal.returns
returns c =
    let n = c.run_pixels-n in let a = c.args in
    let f = n.ensures in (
      omega arith,
      omega (arith, f.2),
      λ w b sees room.
          leapt_run w a.total b a.s a.v n.result room sees c.requires.2 f.0 f.1 (omega (arith, c.if-total-s.false)),
    )
