use Rattle.std.proofs.Common.{arith, true, false}
use Rattle.object_list.proofs.RowLaws.{bits-start, bits_more}
use Rattle.object_list.proofs.states.state_bits.Goals as goal
use Rattle.object_list.proofs.states.state_bits.Goals.{then-image_drawable, else-image_drawable}

pub loop-n-init : goal.loop-n-init
loop-n-init c = (bits-start _ _, omega arith)

pub loop-n-preserved : goal.loop-n-preserved
loop-n-preserved c =
    elim c.if-image_drawable.branch [
      | then-image_drawable w ↦ bits_more _ _ _ _ c.loop-n-test.true c.loop-n.invariant true w.if-image_drawable.ensures _ w.bits-is
      | else-image_drawable w ↦ bits_more _ _ _ _ c.loop-n-test.true c.loop-n.invariant false w.if-image_drawable.ensures _ w.bits-is
    ]
