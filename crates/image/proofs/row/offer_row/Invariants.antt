use Rattle.image.proofs.RowLaws.{Offering}
use Rattle.image.proofs.row.offer_row.Given as goal

abbrev pub invariant-loop-o : goal.invariant-loop-o
invariant-loop-o l = Offering l.initial.table l.row l.table l.o
