use Rattle.std.proofs.Common.{◌-◌, ◌≡◌}
use Rattle.table.specs.Table.{offsets_right, table_right}
use Rattle.table.proofs.table_right.Given as goal

abbrev pub invariant-loop-k : goal.invariant-loop-k
invariant-loop-k l = offsets_right l.mask l.room l.b l.low l.size l.k (l.n - l.k) l.before ≡ table_right l.mask l.n l.room l.b l.z
