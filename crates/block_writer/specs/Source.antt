-- What a block is made from, as the list of its strips' bodies.
-- For the proofs: no public promise rests on what this page says.
use Rattle.std.specs.Prelude.{ℕ, List}
use Rattle.block_writer.specs.declared.Source.{Source}
use Rattle.block_writer.specs.Block.{body_for}

-- the body of each strip
abbrev pub body_of : Source → ℕ → List ℕ
body_of s = body_for s.mask s.n s.h s.rows.now
