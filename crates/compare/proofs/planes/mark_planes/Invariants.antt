use Rattle.room.specs.Test.{strips}
use Rattle.compare.specs.Pair.{rooms_of}
use Rattle.compare.specs.Tables.{Marks}
use Rattle.compare.proofs.planes.mark_planes.Given as goal

abbrev pub invariant-loop-q : goal.invariant-loop-q
invariant-loop-q l = Marks (rooms_of l.pair) l.q (strips l.pair.ra) l.marks
