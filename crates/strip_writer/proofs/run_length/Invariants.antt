use Rattle.std.proofs.Common.{◌≡◌, ◌+◌, ◌-◌, ◌≤◌, length, drop}
use Rattle.strip_writer.specs.Rows.{run_length}
use Rattle.strip_writer.proofs.run_length.Given as goal

abbrev pub invariant-loop-n : goal.invariant-loop-n
invariant-loop-n l = (l.n ≤ 127) × (l.y + l.n ≤ length l.rows)
    × (run_length 127 l.b (drop l.y l.rows) ≡ l.n + run_length (127 - l.n) l.b (drop (l.y + l.n) l.rows))
