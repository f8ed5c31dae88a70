use Rattle.table.proofs.table_end.Goals as goal

pub returns-then-mask : goal.returns-then-mask
returns-then-mask c = rw c.if-mask.true

pub returns-else-mask : goal.returns-else-mask
returns-else-mask c = rw c.if-mask.false
