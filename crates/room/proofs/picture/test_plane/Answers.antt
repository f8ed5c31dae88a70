use Rattle.std.proofs.Common.{arith, sym, ◌∙◌}
use Rattle.block.proofs.Laws.{nth_at}
use Rattle.room.proofs.picture.test_plane.Goals as goal

pub test_block-requires : goal.test_block-requires
test_block-requires c =
    let i = nth_at _ _ _ _ _ _ _ (sym c.in-Some.is ∙ c.plane_in.ensures) in
    omega arith
