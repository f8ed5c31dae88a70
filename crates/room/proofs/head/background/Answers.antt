use Rattle.std.proofs.Common.{arith, sym, ◌∙◌}
use Rattle.room.proofs.HeadLaws.{headed_lies}
use Rattle.room.proofs.head.background.Goals as goal

pub find_tag-requires : goal.find_tag-requires
find_tag-requires c =
    let i = headed_lies _ _ _ _ _ _ _ _ _ (sym c.in_ok-image_header.was ∙ c.need_headed.ensures) in
    omega arith
