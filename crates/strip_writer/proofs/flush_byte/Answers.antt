use Rattle.std.proofs.Common.{refl, arith}
use Rattle.strip_writer.proofs.BitWriterLaws.{flush_none, flush_one}
use Rattle.strip_writer.proofs.flush_byte.Goals as goal

pub returns-then-bits-lt8 : goal.returns-then-bits-lt8
returns-then-bits-lt8 c = (flush_none _ _ c.requires.0, refl, omega arith)

pub returns : goal.returns
returns c = (flush_one c.args.out.now c.args.writer c.requires.0 c.if-bits-lt8.false (omega arith), omega arith, omega arith)
