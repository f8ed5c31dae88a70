use Rattle.std.proofs.Common.{arith, mul-le-mul, sym, ◌∙◌}
use Rattle.actor.proofs.SizeLaws.{ranges}
use Rattle.cast.proofs.numbers.check_frame.Goals as goal

-- `cast::numbers::check_frame` meets its contract. Assumes nothing.

pub overflow_mul-w : goal.overflow_mul-w
overflow_mul-w c =
    let r = ranges _ _ _ (sym c.sizes_fit.ensures ∙ c.if-not-sizes_fit.false) in
    omega (arith, mul-le-mul r.wide r.high)
