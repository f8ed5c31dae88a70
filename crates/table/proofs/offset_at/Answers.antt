use Rattle.std.proofs.Common.{arith}
use Rattle.table.specs.Table.{offset_at}
use Rattle.table.proofs.offset_at.Goals as goal

pub read_le16-requires : goal.read_le16-requires
read_le16-requires c =
    let room = rw c.if-mask.true at c.requires.0 in
    omega arith

pub read_le32-requires : goal.read_le32-requires
read_le32-requires c =
    let room = rw c.if-mask.false at c.requires.0 in
    omega arith

pub returns-then-mask : goal.returns-then-mask
unfolding offset_at
returns-then-mask c = (rw c.if-mask.true c.read_le16.ensures.0, omega arith)

pub returns-else-mask : goal.returns-else-mask
unfolding offset_at
returns-else-mask c = (rw c.if-mask.false c.read_le32.ensures.0, omega arith)
