use Rattle.std.proofs.Common.{length, take, drop, ◌+◌, ◌-◌, ◌≤◌, ◌≡◌}
use Rattle.plane.specs.Mask.{literals, rows_of}
use Rattle.strip.specs.Strip.{prepend}
use Rattle.plane.proofs.mask_rows.Given as goal

abbrev pub invariant-loop-i : goal.invariant-loop-i
invariant-loop-i l =
    (l.i ≤ l.h) × (l.at ≤ length l.body) × (length l.out ≡ length l.initial.out) × (drop l.i l.out ≡ drop l.i l.initial.out)
    × (rows_of l.body l.h (literals 0) ≡ prepend (take l.i l.out) (rows_of (drop l.at l.body) (l.h - l.i) (literals 0)))

abbrev pub decreases-loop-i : goal.decreases-loop-i
decreases-loop-i l = (l.h - l.i) + (length l.body - l.at)
