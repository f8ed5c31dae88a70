use Rattle.std.proofs.Common.{◌≡◌, ℕ, ◌*◌}
use Rattle.grid.specs.Grid.{upd, boxed}
use Rattle.load.specs.Pair.{Shows}
use Rattle.load.proofs.paint.blit_two.Given as goal

abbrev pub invariant-loop-r : goal.invariant-loop-r
invariant-loop-r l =
    (f : ℕ → ℕ → ℕ) → Shows 0 l.h l.left f → Shows 8 l.h l.right f → l.pixels ≡ upd (boxed l.w (8 * l.k) 0 16 l.r (λ c y o. f c y)) l.initial.pixels
