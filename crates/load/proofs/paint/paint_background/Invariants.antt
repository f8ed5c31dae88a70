use Rattle.std.proofs.Common.{◌≡◌, ◌*◌}
use Rattle.grid.specs.Grid.{upd, boxed}
use Rattle.table.specs.Body.{pixel_at}
use Rattle.load.proofs.paint.paint_background.Given as goal

abbrev pub invariant-loop-pair : goal.invariant-loop-pair
invariant-loop-pair l =
    l.pixels ≡ upd (boxed (8 * l.n) 0 0 (16 * l.pair) l.h (λ x y o. pixel_at l.n l.h l.room l.b l.z x y)) l.initial.pixels
