use Rattle.std.proofs.Common.{length, get_or, ◌≡◌, ℕ, ◌<◌}
use Rattle.strip_test.specs.Leap.{widened}
use Rattle.strip_test.proofs.leap.widen_rows.Given as goal

abbrev pub invariant-loop-x : goal.invariant-loop-x
invariant-loop-x l = (length l.out ≡ 256) × ((y : ℕ) → y < l.x → get_or l.out y 0 ≡ widened l.w (get_or l.rows y 0))
