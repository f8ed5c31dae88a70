use Rattle.std.proofs.Common.{◌≡◌, ◌≤◌, get_or}
use Rattle.compare.specs.Compare.{differing}
use Rattle.compare.proofs.count.unequal.Given as goal

abbrev pub invariant-loop-i : goal.invariant-loop-i
invariant-loop-i l = (l.count ≡ differing (λ j. get_or l.f j 0) (λ j. get_or l.g j 0) l.i) × (l.count ≤ l.i)
