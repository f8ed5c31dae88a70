use Rattle.std.proofs.Common.{suc, ◌-◌, ◌≡◌}
use Rattle.point.specs.Point.{lowest}
use Rattle.point.specs.Tables.{hit_in}
use Rattle.point.proofs.hit.lowest_hit.Given as goal

abbrev pub invariant-loop-o : goal.invariant-loop-o
invariant-loop-o l =
    lowest (hit_in l.boxes l.states l.places l.size l.flags l.x l.y) 1 l.size.count
    ≡ lowest (hit_in l.boxes l.states l.places l.size l.flags l.x l.y) l.o (suc l.size.count - l.o)
