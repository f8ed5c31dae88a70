use Rattle.std.proofs.Common.{◌*◌, ◌≡◌, length}
use lib.Seq.{sets}
use Rattle.compare.specs.Compare.{listed_to, list_bytes}
use Rattle.compare.specs.Tables.{table_at}
use Rattle.compare.proofs.places.put_places.Given as goal

abbrev pub invariant-loop-k : goal.invariant-loop-k
invariant-loop-k l =
    (l.at ≡ 8 * length (listed_to (table_at l.counts l.marks) l.k))
    × (l.list ≡ sets l.initial.list 0 (list_bytes (listed_to (table_at l.counts l.marks) l.k)))
