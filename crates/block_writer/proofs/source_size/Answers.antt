use Rattle.std.proofs.Common.{sym, arith}
use Rattle.block_writer.proofs.CallLaws.{rows_few, need_few}
use Rattle.block_writer.proofs.StripBytesLaws.{need_rows, need_pixels}
use Rattle.block_writer.proofs.source_size.Goals as goal

pub overflow_mul-result : goal.overflow_mul-result
overflow_mul-result c = let k = rows_few c.args.n c.args.h c.requires.0 c.requires.1 in omega arith

pub returns-then-mask : goal.returns-then-mask
returns-then-mask c = sym (need_rows c.args.mask c.args.n c.args.h c.if-mask.true)

pub overflow_mul-result-3 : goal.overflow_mul-result-3
overflow_mul-result-3 c = let k = need_few c.args.n c.args.h c.requires.0 c.requires.1 in omega arith

pub returns : goal.returns
returns c = sym (need_pixels c.args.mask c.args.n c.args.h c.if-mask.false)
