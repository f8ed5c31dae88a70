use Rattle.strip.proofs.operations.op.Goals as goal

pub second_op-requires : goal.second_op-requires
second_op-requires c = rw c.if-second.true at c.requires

pub first_op-requires : goal.first_op-requires
first_op-requires c = rw c.if-second.false at c.requires

pub returns-then-second : goal.returns-then-second
returns-then-second c = rw c.if-second.true c.second_op.ensures

pub returns-else-second : goal.returns-else-second
returns-else-second c = rw c.if-second.false c.first_op.ensures
