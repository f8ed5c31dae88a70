use Rattle.std.proofs.Common.{◌≡◌, ◌+◌, ◌-◌, ◌*◌}
use Rattle.block.specs.Tree.{list_ok}
use Rattle.block.proofs.+block_ok_list_ok.Given as goal

abbrev pub decreases-block_ok : goal.decreases-block_ok
decreases-block_ok l = 2 * l.left

abbrev pub decreases-list_ok : goal.decreases-list_ok
decreases-list_ok l = 2 * l.left + 1

abbrev pub invariant-list_ok-loop-z : goal.invariant-list_ok-loop-z
invariant-list_ok-loop-z l = list_ok l.left l.s l.a l.end ≡ list_ok l.left l.s l.at l.end

abbrev pub decreases-list_ok-loop-z : goal.decreases-list_ok-loop-z
decreases-list_ok-loop-z l = l.end - l.a
