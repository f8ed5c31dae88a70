use Rattle.std.proofs.Common.{◌≡◌, ◌+◌, ◌-◌, ◌≤◌}
use Rattle.block.specs.Tree.{count_tag}
use Rattle.block.proofs.count_tag.Given as goal

abbrev pub invariant-loop-z : goal.invariant-loop-z
invariant-loop-z l = (l.n ≤ l.a) × (l.n + count_tag l.tag l.s l.a l.end ≡ count_tag l.tag l.s l.at l.end)

abbrev pub decreases-loop-z : goal.decreases-loop-z
decreases-loop-z l = l.end - l.a
