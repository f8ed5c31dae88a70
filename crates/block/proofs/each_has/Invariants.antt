use Rattle.std.proofs.Common.{◌≡◌, ◌-◌}
use Rattle.block.specs.Tree.{each_has}
use Rattle.block.proofs.each_has.Given as goal

abbrev pub invariant-loop-z : goal.invariant-loop-z
invariant-loop-z l = each_has l.tag l.child l.n l.s l.a l.end ≡ each_has l.tag l.child l.n l.s l.at l.end

abbrev pub decreases-loop-z : goal.decreases-loop-z
decreases-loop-z l = l.end - l.a
