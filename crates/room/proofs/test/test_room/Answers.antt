use Rattle.std.proofs.Common.{sym, ◌∙◌}
use Rattle.room.proofs.HeadLaws.{head_sound}
use Rattle.room.proofs.test.test_room.Goals as goal

pub is_short-requires : goal.is_short-requires
is_short-requires c =
    let i = head_sound _ _ (sym c.in_ok-room.was ∙ c.read_head.ensures) in
    (i.widest, i.highest, i.few)

pub test_pictures-requires : goal.test_pictures-requires
test_pictures-requires c = head_sound _ _ (sym c.in_ok-room.was ∙ c.read_head.ensures)
