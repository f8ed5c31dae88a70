use Rattle.block_writer.proofs.FillLaws.{offset_none, offset_some}
use Rattle.block_writer.proofs.offset_of.Goals as goal

pub returns-then-len-eq0 : goal.returns-then-len-eq0
returns-then-len-eq0 c = λ b e. offset_none _ _ b c.if-len-eq0.true e

pub returns : goal.returns
returns c = λ b e. offset_some _ _ b c.if-len-eq0.false e
