use Rattle.std.proofs.Common.{arith, mul-le-mul}
use Rattle.actor.specs.Sizes.{sizes_fit}
use Rattle.number.proofs.BoolLaws.{both}
use Rattle.actor.proofs.SizeLaws.{ranges, picture_ranges}
use Rattle.actor.proofs.sizes.buffers_fit.Goals as goal

-- `actor::sizes::buffers_fit` meets its contract. Assumes nothing.

pub overflow_mul-w : goal.overflow_mul-w
overflow_mul-w c = let r = ranges _ _ _ (both _ _ c.requires).0 in omega (arith, mul-le-mul r.wide r.high)

pub overflow_mul-result : goal.overflow_mul-result
overflow_mul-result c =
    let a = c.args in
    let r = picture_ranges a.width a.height (both (sizes_fit a.w a.h a.n) _ c.requires).1 in
    omega (arith, mul-le-mul r.0 r.1)
