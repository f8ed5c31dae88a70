use Rattle.std.proofs.Common.{ℕ, ◌-◌, ◌≤◌}
use Rattle.strip_test.specs.Leap.{Leaps, Leapt}
use Rattle.strip_test.proofs.leap.leaps.Given as goal

abbrev pub invariant-loop-to : goal.invariant-loop-to
invariant-loop-to l =
    (l.s.p ≤ 65536) × (l.s.i ≤ 65536) × ((w : ℕ) → w ≤ 8 → Leaps l.second w l.table → Leapt l.second w l.total l.body l.initial.s l.s)

abbrev pub decreases-loop-to : goal.decreases-loop-to
decreases-loop-to l = l.total - l.s.i
