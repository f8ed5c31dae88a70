use Rattle.std.proofs.Common.{ℕ, ◌+◌, ◌/◌, ◌%◌, ◌^◌, ap, arith}
use Rattle.strip_test.proofs.leap.look.Goals as goal

pub returns : goal.returns
returns c =
    let row = c.wide_u16-row.ensures in let a = c.args in
    (ap (λ (r : ℕ). a.s.v / 2 ^ (r % 64)) row.0, ap (λ (r : ℕ). a.s.sum + r) row.0, omega (arith, row.1))
