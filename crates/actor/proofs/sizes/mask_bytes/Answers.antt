use Rattle.std.proofs.Common.{arith, mul-le-mul, ◌/◌, ◌≤◌}
use Rattle.actor.proofs.SizeLaws.{ranges}
use Rattle.actor.proofs.sizes.mask_bytes.Goals as goal

-- `actor::sizes::mask_bytes` meets its contract. Assumes nothing.

pub overflow_mul-result : goal.overflow_mul-result
overflow_mul-result c =
    let r = ranges _ _ _ c.requires in
    let e : c.args.w / 8 ≤ 128 = omega arith in
    omega (arith, mul-le-mul r.few e)

pub overflow_mul-result-2 : goal.overflow_mul-result-2
overflow_mul-result-2 c =
    let r = ranges _ _ _ c.requires in
    let e : c.args.w / 8 ≤ 128 = omega arith in
    omega (arith, mul-le-mul (mul-le-mul r.few e) r.high)
