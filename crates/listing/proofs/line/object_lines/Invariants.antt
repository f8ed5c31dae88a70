use Rattle.listing.specs.Put.{Put}
use Rattle.listing.specs.Listing.{object_lines}
use Rattle.listing.proofs.line.object_lines.Given as goal

abbrev pub invariant-loop-k : goal.invariant-loop-k
invariant-loop-k l = Put (object_lines l.room l.k) l.initial.out l.out l.at l.end
