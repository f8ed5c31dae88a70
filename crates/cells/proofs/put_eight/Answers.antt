use Rattle.std.proofs.Common.{arith}
use Rattle.cells.proofs.RowLaws.{eight_copied}
use Rattle.cells.proofs.put_eight.Goals as goal

pub returns : goal.returns
returns c = eight_copied _ _ _ _ _ _ _ _ _ _ _ _ c.copy_from_slice.ensures.after (omega arith) c.requires
