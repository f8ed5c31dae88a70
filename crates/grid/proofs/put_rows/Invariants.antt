use Rattle.std.proofs.Common.{◌≡◌, ◌*◌, ◌≤◌, length}
use Rattle.grid.specs.Grid.{upd, boxed, Inside}
use Rattle.grid.specs.Mask.{rows_over}
use Rattle.grid.proofs.put_rows.Given as goal

abbrev pub invariant-loop-r : goal.invariant-loop-r
invariant-loop-r l =
    (l.masks ≡ upd (boxed l.width l.s l.top 1 l.r (rows_over l.rows l.replace)) l.initial.masks) × (l.r ≤ l.n) × (length l.masks ≡ length l.initial.masks)
    × Inside (length l.initial.masks) l.width (l.planes * l.h) l.s l.top 1 l.n
