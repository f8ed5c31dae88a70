use Rattle.std.proofs.Common.{arith}
use Rattle.block_writer.specs.Block.{offset_bytes}
use Rattle.block_writer.proofs.StripBytesLaws.{size-two, size-four}
use Rattle.block_writer.proofs.put_offset.Goals as goal

pub put_le16-requires : goal.put_le16-requires
put_le16-requires c = let e = size-two c.args.mask c.if-mask.true in omega arith

pub put_le32-requires : goal.put_le32-requires
put_le32-requires c = let e = size-four c.args.mask c.if-mask.false in omega arith

pub returns-then-mask : goal.returns-then-mask
unfolding offset_bytes
returns-then-mask c = rw c.if-mask.true c.put_le16.ensures

pub returns-else-mask : goal.returns-else-mask
unfolding offset_bytes
returns-else-mask c = rw c.if-mask.false c.put_le32.ensures
