use Rattle.std.proofs.Common.{◌-◌}
use Rattle.image.specs.Rows.{object_row}
use Rattle.image.proofs.GatherLaws.{Listing}
use Rattle.image.proofs.gather.list_objects.Given as goal

abbrev pub invariant-loop-b : goal.invariant-loop-b
invariant-loop-b l = Listing l.room (object_row l.boxes l.room) l.initial.table l.table l.at l.n

abbrev pub decreases-loop-b : goal.decreases-loop-b
decreases-loop-b l = l.end - l.at
