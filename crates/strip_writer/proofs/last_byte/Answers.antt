use Rattle.std.proofs.Common.{◌+◌, refl, le_refl, arith, length-set, drop-set-lt}
use Rattle.strip_writer.proofs.BitWriterLaws.{finish_none, finish_one, hold_byte}
use Rattle.strip_writer.proofs.last_byte.Goals as goal

pub returns-then-bits-eq0 : goal.returns-then-bits-eq0
returns-then-bits-eq0 c = (finish_none _ _ c.if-bits-eq0.true, refl, le_refl _, omega arith)

pub overflow_cast-out : goal.overflow_cast-out
overflow_cast-out c = record { fits = hold_byte c.args.writer c.requires.0 c.requires.1 }

pub returns : goal.returns
returns c =
    let a = c.args in (
      finish_one a.out.now a.writer c.requires.0 c.if-bits-eq0.false c.requires.1 (omega arith),
      drop-set-lt (a.writer.at + 1) a.out.now a.writer.at a.writer.hold (omega arith),
      omega arith,
      omega (arith, length-set a.out.now a.writer.at a.writer.hold),
    )
