use Rattle.std.proofs.Common.{◌≡◌, ◌+◌, ◌-◌, ◌≤◌, length, drop}
use Rattle.strip_writer.specs.Place.{pending}
use Rattle.strip_writer.specs.Rows.{ops_bytes}
use Rattle.strip_writer.proofs.write_ops.Given as goal

abbrev pub invariant-loop-y : goal.invariant-loop-y
invariant-loop-y l = (l.y ≤ length l.rows) × (length l.out ≡ length l.initial.out) × (drop l.at l.out ≡ drop l.at l.initial.out) ×
    (l.at + length (ops_bytes 0 (drop l.y l.rows)) ≤ length l.out) × (ops_bytes 0 l.rows ≡ pending l.rows l.out l.y l.at)

abbrev pub decreases-loop-y : goal.decreases-loop-y
decreases-loop-y l = length l.rows - l.y
