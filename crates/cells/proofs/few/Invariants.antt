use Rattle.std.proofs.Common.{◌≡◌, ◌||◌, cond, ◌+◌, ◌-◌, ◌/◌, ◌%◌, ◌^◌, ◌≤◌, eqb, length, get_or}
use Rattle.grid.specs.Grid.{upd, rowed}
use Rattle.cells.proofs.few.Given as goal

abbrev pub invariant-loop-k : goal.invariant-loop-k
invariant-loop-k l =
    (l.frame ≡ upd (rowed l.w l.x l.y l.k (λ j o. cond (eqb (get_or l.picture (l.from + j) 0) l.clear || eqb (l.bits / 2 ^ (7 - j) % 2) 1) o
    (get_or l.picture (l.from + j) 0))) l.initial.frame)
    × (l.k ≤ l.n)
    × (length l.frame ≡ length l.initial.frame)
