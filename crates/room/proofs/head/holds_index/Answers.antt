use Rattle.std.proofs.Common.{sym, ◌∙◌, arith}
use Rattle.room.proofs.HeadLaws.{trns_lies}
use Rattle.room.proofs.head.holds_index.Goals as goal

pub overflow_add-result : goal.overflow_add-result
overflow_add-result c = omega (arith, trns_lies _ _ _ (sym c.in-Some.is ∙ c.requires))
