use Rattle.compare.specs.Pair.{rooms_of}
use Rattle.compare.specs.Tables.{Counts}
use Rattle.compare.proofs.strips.count_pixels.Given as goal

abbrev pub invariant-loop-k : goal.invariant-loop-k
invariant-loop-k l = Counts (rooms_of l.pair) l.k l.counts
