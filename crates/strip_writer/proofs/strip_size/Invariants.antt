use Rattle.std.proofs.Common.{◌≡◌, ◌+◌, ◌-◌, ◌*◌, ◌≤◌, length, get_or, drop}
use Rattle.strip_writer.specs.Pixels.{ops_bits}
use Rattle.strip_writer.proofs.strip_size.Given as goal

abbrev pub invariant-loop-i : goal.invariant-loop-i
invariant-loop-i l = (1 ≤ l.i) × (l.i ≤ length l.px) × (l.bits + 10 ≤ 10 * l.i) ×
    (l.bits + length (ops_bits (get_or l.px (l.i - 1) 0) 1 (drop l.i l.px)) ≡ length (ops_bits (get_or l.px 0 0) 1 (drop 1 l.px)))
