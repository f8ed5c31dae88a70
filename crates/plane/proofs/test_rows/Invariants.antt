use Rattle.std.proofs.Common.{length, drop, ◌+◌, ◌-◌, ◌≤◌, ◌≡◌}
use Rattle.plane.specs.Mask.{literals, rows_of}
use Rattle.strip.specs.Strip.{made_of}
use Rattle.plane.proofs.test_rows.Given as goal

abbrev pub invariant-loop-left : goal.invariant-loop-left
invariant-loop-left l = (l.at ≤ length l.body) × (made_of (rows_of l.body l.h (literals 0)) ≡ made_of (rows_of (drop l.at l.body) l.left (literals 0)))

abbrev pub decreases-loop-left : goal.decreases-loop-left
decreases-loop-left l = l.left + (length l.body - l.at)
