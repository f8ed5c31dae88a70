use Rattle.std.proofs.Common.{◌-◌, ◌≤◌, mul-le-mul_right, arith, length}
use Rattle.load.proofs.BoxLaws.{run_box, plane-room}
use Rattle.load.proofs.paint.clear_plane.Goals as goal

-- `load::paint::clear_plane` meets its contract. Assumes nothing.

pub overflow_mul-plane : goal.overflow_mul-plane
overflow_mul-plane c =
    let few : c.args.plane - 1 ≤ 3 = omega arith in
    omega (arith, mul-le-mul_right c.args.h few)

pub overflow_mul-plane-2 : goal.overflow_mul-plane-2
overflow_mul-plane-2 c = omega (arith, plane-room (c.args.plane - 1) c.args.h c.args.n c.args.planes (length c.args.masks.now) (omega arith) (omega arith))

pub overflow_mul-h : goal.overflow_mul-h
overflow_mul-h c = omega (arith, plane-room (c.args.plane - 1) c.args.h c.args.n c.args.planes (length c.args.masks.now) (omega arith) (omega arith))

pub fill-requires : goal.fill-requires
fill-requires c = plane-room (c.args.plane - 1) c.args.h c.args.n c.args.planes (length c.args.masks.now) (omega arith) (omega arith)

pub returns : goal.returns
returns c =
    let fill = c.fill in
    run_box _ _ _ _ _ _ fill.auto.out (plane-room (c.args.plane - 1) c.args.h c.args.n c.args.planes (length c.args.masks.now) (omega arith) (omega arith))
    fill.ensures.filled fill.ensures.rest_stays
