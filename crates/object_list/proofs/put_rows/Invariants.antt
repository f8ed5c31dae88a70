use Rattle.std.proofs.Common.{◌-◌, ◌≡◌, length}
use lib.Seq.{sets}
use Rattle.image.proofs.GatherLaws.{Walked}
use Rattle.object_list.specs.List.{rows_to}
use Rattle.object_list.proofs.put_rows.Given as goal

abbrev pub invariant-loop-b : goal.invariant-loop-b
invariant-loop-b l = Walked l.room l.at l.n × (length l.rows ≡ length l.initial.rows) × (l.rows ≡ sets l.initial.rows 0 (rows_to l.room l.n))

abbrev pub decreases-loop-b : goal.decreases-loop-b
decreases-loop-b l = l.end - l.at
