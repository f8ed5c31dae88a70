use Rattle.std.proofs.Common.{refl, arith, length-set}
use Rattle.grid.proofs.Box.{spot, box_none, column_write}
use Rattle.grid.proofs.Masks.{plane-inside}
use Rattle.grid.proofs.put_rows.Goals as goal

-- `grid::put_rows` meets its contract. Assumes nothing.

pub loop-r-init : goal.loop-r-init
loop-r-init c = (box_none _ _ _ _ _ _, omega arith, refl, plane-inside _ _ _ _ _ _ _ _ c.requires.in_plane)

pub bounds-masks-at : goal.bounds-masks-at
bounds-masks-at c =
    omega (arith, spot _ _ _ _ _ _ _ _ 0 c.loop-r.invariant.3 c.loop-r-test.true (omega arith))

pub bounds-masks-at-in-loop-r : goal.bounds-masks-at-in-loop-r
bounds-masks-at-in-loop-r c =
    omega (arith, spot _ _ _ _ _ _ _ _ 0 c.loop-r.invariant.3 c.loop-r-test.true (omega arith))

pub loop-r-preserved : goal.loop-r-preserved
loop-r-preserved c =
    let inv = c.loop-r.invariant in
    (column_write _ _ _ _ _ _ _ (omega arith) inv.0 _ _ refl c.mask_over.ensures, omega arith, simp length-set inv.2, inv.3)
