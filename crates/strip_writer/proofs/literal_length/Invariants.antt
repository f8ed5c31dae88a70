use Rattle.std.proofs.Common.{◌≡◌, ◌+◌, ◌-◌, ◌<◌, ◌≤◌, length, drop}
use Rattle.strip_writer.specs.Rows.{literal_length}
use Rattle.strip_writer.proofs.literal_length.Given as goal

abbrev pub invariant-loop-m : goal.invariant-loop-m
invariant-loop-m l = (l.m ≤ 127) × (l.y + l.m < length l.rows)
    × (literal_length 127 (drop l.y l.rows) ≡ l.m + literal_length (127 - l.m) (drop (l.y + l.m) l.rows))
