use Rattle.std.proofs.Common.{◌+◌, ◌*◌}
use Rattle.block_writer.proofs.FillLaws.{Filling}
use Rattle.block_writer.specs.Source.{body_of}
use Rattle.block_writer.proofs.Source.write_strips.Given as goal

abbrev pub invariant-loop-k : goal.invariant-loop-k
invariant-loop-k l = Filling l.self.mask l.self.n (body_of l.self) l.initial.out l.out l.k l.at (8 + l.size * l.k)
