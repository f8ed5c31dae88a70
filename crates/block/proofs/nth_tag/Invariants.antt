use Rattle.std.proofs.Common.{◌≡◌, ◌-◌}
use Rattle.block.specs.Tree.{nth_tag}
use Rattle.block.proofs.nth_tag.Given as goal

abbrev pub invariant-loop-z : goal.invariant-loop-z
invariant-loop-z l = nth_tag l.tag l.s l.a l.end l.left ≡ nth_tag l.tag l.s l.at l.end l.k

abbrev pub decreases-loop-z : goal.decreases-loop-z
decreases-loop-z l = l.end - l.a
