use Rattle.std.proofs.Common.{refl}
use Rattle.table.specs.Table.{offset_right}
use Rattle.table.proofs.offset_right.Goals as goal

pub returns : goal.returns
unfolding offset_right
returns c = refl
