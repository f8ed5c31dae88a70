use Rattle.std.proofs.Common.{◌/◌, ◌≡◌, arith}
use Rattle.strip_test.proofs.reach_of.Goals as goal

pub returns-then-row-lt256 : goal.returns-then-row-lt256
returns-then-row-lt256 c =
    let none : c.args.row / 256 ≡ 0 = omega arith in
    (rw none (omega arith), omega (arith, c.requires.0))

pub returns-else-row-lt256 : goal.returns-else-row-lt256
returns-else-row-lt256 c =
    let one : c.args.row / 256 ≡ 1 = omega (arith, c.requires.1) in
    (rw one (omega arith), omega (arith, c.requires.0, c.requires.2))
