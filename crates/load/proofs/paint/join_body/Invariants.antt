use Rattle.std.proofs.Common.{◌≡◌, false, ◌+◌, ◌-◌, ◌*◌, ◌≤◌, length, drop}
use Rattle.grid.specs.Grid.{upd, boxed}
use Rattle.grid.specs.Mask.{rows_over}
use Rattle.strip.specs.Strip.{values}
use Rattle.plane.specs.Mask.{rows_of, literals}
use Rattle.table.specs.Body.{row_values}
use Rattle.load.proofs.paint.join_body.Given as goal

abbrev pub invariant-loop-i : goal.invariant-loop-i
invariant-loop-i l =
    (l.i ≤ l.h) × (l.at ≤ length l.body) × (length l.masks ≡ length l.initial.masks)
    × (l.masks ≡ upd (boxed l.n l.k ((l.plane - 1) * l.h) 1 l.i (rows_over (row_values (rows_of l.body l.h (literals 0))) false)) l.initial.masks)
    × (rows_of (drop l.at l.body) (l.h - l.i) (literals 0) ≡ values (drop l.i (row_values (rows_of l.body l.h (literals 0)))))

abbrev pub decreases-loop-i : goal.decreases-loop-i
decreases-loop-i l = (l.h - l.i) + (length l.body - l.at)
