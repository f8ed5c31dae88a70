use Rattle.std.proofs.Common.{◌≡◌, ◌≤◌, length}
use Rattle.compare.specs.Compare.{listed_to}
use Rattle.compare.specs.Tables.{table_at}
use Rattle.compare.proofs.places.count_places.Given as goal

abbrev pub invariant-loop-k : goal.invariant-loop-k
invariant-loop-k l = (l.count ≡ length (listed_to (table_at l.counts l.marks) l.k)) × (l.count ≤ l.k)
