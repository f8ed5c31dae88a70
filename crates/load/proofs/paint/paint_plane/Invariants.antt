use Rattle.std.proofs.Common.{◌≡◌, false, ◌-◌, ◌*◌}
use Rattle.grid.specs.Grid.{upd, boxed}
use Rattle.grid.specs.Mask.{mask_over}
use Rattle.table.specs.Body.{mask_at}
use Rattle.load.proofs.paint.paint_plane.Given as goal

abbrev pub invariant-loop-s : goal.invariant-loop-s
invariant-loop-s l =
    l.masks ≡ upd (boxed l.n 0 ((l.plane - 1) * l.h) l.s l.h (λ t y o. mask_over false (mask_at l.n l.h l.room l.b l.z t y) o)) l.initial.masks
