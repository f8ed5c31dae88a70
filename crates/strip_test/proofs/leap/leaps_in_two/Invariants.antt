use Rattle.std.proofs.Common.{ℕ, ◌-◌, ◌≤◌}
use Rattle.strip_test.specs.Leap.{Leaps, Leapt}
use Rattle.strip_test.proofs.leap.leaps_in_two.Given as goal

abbrev pub invariant-loop-to_a : goal.invariant-loop-to_a
invariant-loop-to_a l =
    (l.a.p ≤ 65536) × (l.a.i ≤ 65536) × (l.b.p ≤ 65536) × (l.b.i ≤ 65536)
    × ((w : ℕ) → w ≤ 8 → Leaps l.second_x w l.tx → Leapt l.second_x w l.total l.x l.initial.a l.a)
    × ((w : ℕ) → w ≤ 8 → Leaps l.second_y w l.ty → Leapt l.second_y w l.total l.y l.initial.b l.b)

abbrev pub decreases-loop-to_a : goal.decreases-loop-to_a
decreases-loop-to_a l = l.total - l.a.i
