use Rattle.std.proofs.Common.{mul-le-mul_left, arith, ◌*◌, ◌/◌, ◌≤◌, refl}
use Rattle.room.specs.Test.{short}
use Rattle.room.proofs.test.is_short.Goals as goal

pub overflow_mul-area : goal.overflow_mul-area
overflow_mul-area c = omega (arith, mul-le-mul_left c.args.r.width c.requires.1)

pub overflow_mul-rows : goal.overflow_mul-rows
overflow_mul-rows c = omega (arith, mul-le-mul_left c.args.r.planes c.requires.1)

pub overflow_mul-masks : goal.overflow_mul-masks
overflow_mul-masks c =
    let rows : c.args.r.planes * c.args.r.height ≤ 800 = omega (arith, mul-le-mul_left c.args.r.planes c.requires.1) in
    omega (arith, mul-le-mul_left (c.args.r.width / 8) rows)

pub returns : goal.returns
unfolding short
returns c = refl
