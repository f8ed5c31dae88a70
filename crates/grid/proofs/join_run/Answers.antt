use Rattle.std.proofs.Common.{refl, ap, ◌∙◌, arith, length-set}
use lib.Bits.{bit_or, or_zero_r}
use Rattle.grid.proofs.Box.{spot, box_none, box_kept, column_write}
use Rattle.grid.proofs.Masks.{plane-inside}
use Rattle.grid.proofs.join_run.Goals as goal

-- `grid::join_run` meets its contract. Assumes nothing.

pub returns-then-value-eq0 : goal.returns-then-value-eq0
returns-then-value-eq0 c = box_kept _ _ _ _ _ _ _ (λ x r o lx lr. ap (bit_or o) c.if-value-eq0.true ∙ or_zero_r o)

pub loop-r-init : goal.loop-r-init
loop-r-init c = (box_none _ _ _ _ _ _, omega arith, refl, plane-inside _ _ _ _ _ _ _ _ c.requires)

pub bounds-masks-at : goal.bounds-masks-at
bounds-masks-at c = omega (arith, spot _ _ _ _ _ _ _ _ 0 c.loop-r.invariant.3 c.loop-r-test.true (omega arith))

pub bounds-masks-at-in-loop-r : goal.bounds-masks-at-in-loop-r
bounds-masks-at-in-loop-r c = omega (arith, spot _ _ _ _ _ _ _ _ 0 c.loop-r.invariant.3 c.loop-r-test.true (omega arith))

pub loop-r-preserved : goal.loop-r-preserved
loop-r-preserved c =
    let inv = c.loop-r.invariant in
    (column_write _ _ _ _ _ _ _ (omega arith) inv.0 _ _ refl refl, omega arith, simp length-set inv.2, inv.3)
