use Rattle.std.proofs.Common.{◌≡◌, false, ◌||◌, cond, ◌+◌, ◌≤◌, eqb, length, get_or}
use Rattle.grid.specs.Grid.{upd, rowed}
use Rattle.cells.proofs.plain.Given as goal

abbrev pub invariant-loop-k : goal.invariant-loop-k
invariant-loop-k l =
    (l.frame ≡ upd (rowed l.w l.x l.y l.k (λ j o. cond (eqb (get_or l.picture (l.from + j) 0) l.clear || false) o (get_or l.picture (l.from + j) 0)))
    l.initial.frame)
    × (l.k ≤ l.n)
    × (length l.frame ≡ length l.initial.frame)
