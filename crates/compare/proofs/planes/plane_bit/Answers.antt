use Rattle.std.proofs.Common.{◌≡◌, ◌*◌, ◌≤◌, ◌^◌, ◌<◌, ◌∙◌, arith}
use Rattle.std.proofs.Math.Nat.{mod-eq_of_lt}
use Rattle.std.proofs.Math.Pow.{pow_mono}
use Rattle.compare.proofs.planes.plane_bit.Goals as goal

-- `compare::planes::plane_bit` meets its contract. Assumes nothing.

pub returns : goal.returns
returns c =
    let few : c.args.q ≤ 3 = omega arith in
    let low : 2 ^ c.args.q ≤ 2 ^ 3 = pow_mono few in
    let one : 1 * 2 ^ c.args.q ≡ 2 ^ c.args.q = omega arith in
    let fits : 1 * 2 ^ c.args.q < 256 = omega (arith, one, low) in
    let same = mod-eq_of_lt fits in
    (same ∙ one, omega (arith, same, one, low))
