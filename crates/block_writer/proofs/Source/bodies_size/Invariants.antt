use Rattle.std.proofs.Common.{length, ◌+◌, ◌-◌, ◌*◌, ◌≤◌, ◌≡◌}
use Rattle.block_writer.specs.Block.{bodies_from}
use Rattle.block_writer.specs.Source.{body_of}
use Rattle.block_writer.proofs.Source.bodies_size.Given as goal

abbrev pub invariant-loop-k : goal.invariant-loop-k
invariant-loop-k l = (l.k ≤ l.self.n) × (l.sum ≤ 2001 * l.k) × (l.sum + length (bodies_from (body_of l.self) l.k (l.self.n - l.k)) ≡ length
    (bodies_from (body_of l.self) 0 l.self.n))
