use Rattle.std.proofs.Common.{arith, sym, ◌∙◌}
use Rattle.room.proofs.HeadLaws.{headed_lies}
use Rattle.room.proofs.head.needed.Goals as goal

pub background-requires : goal.background-requires
background-requires c =
    let i = headed_lies _ _ _ _ _ _ _ _ _ (sym c.in_ok-header.was ∙ c.need_headed.ensures) in
    omega arith
