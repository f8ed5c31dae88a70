use Rattle.std.proofs.Common.{◌≡◌, refl, arith, length-set}
use Rattle.grid.proofs.Box.{row-none, row_write}
use Rattle.cells.proofs.few.Goals as goal

-- `cells::few` meets its contract. Assumes nothing.

pub loop-k-init : goal.loop-k-init
loop-k-init c = (row-none _ _ _ _ _, omega arith, refl)

pub loop-k-preserved : goal.loop-k-preserved
loop-k-preserved c =
    let inv = c.loop-k.invariant in
    (row_write _ _ _ _ _ _ _ (omega arith) inv.0 _ _ (omega arith) c.cell.ensures, omega arith, simp length-set inv.2)

pub returns : goal.returns
returns c =
    let all : c.loop-k.k ≡ c.args.n = omega arith in
    rw all at c.loop-k.invariant.0
