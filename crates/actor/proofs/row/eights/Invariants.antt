use Rattle.std.proofs.Common.{◌≡◌, ◌||◌, cond, ◌+◌, ◌-◌, ◌*◌, ◌/◌, ◌%◌, ◌^◌, eqb, get_or}
use Rattle.grid.specs.Grid.{upd, rowed}
use Rattle.actor.proofs.row.eights.Given as goal

abbrev pub invariant-loop-k : goal.invariant-loop-k
invariant-loop-k l =
    l.frame ≡ upd (rowed l.w l.x l.y (8 * l.k) (λ j o. cond (eqb (get_or l.picture (l.from + j) 0) l.clear
    || eqb (get_or l.masks (l.line + (l.x + j) / 8) 0 / 2 ^ (7 - (l.x + j) % 8) % 2) 1) o (get_or l.picture (l.from + j) 0))) l.initial.frame
