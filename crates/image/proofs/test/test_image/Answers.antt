use Rattle.std.proofs.Common.{◌≡◌, Some, rules, arith}
use Rattle.block.specs.Tag.{tag-SMAP}
use Rattle.block.specs.Tree.{find_tag}
use Rattle.block.proofs.Laws.{nth_at}
use Rattle.image.proofs.test.test_image.Goals as goal

pub test_im-requires : goal.test_im-requires
test_im-requires c =
    let found : Some (c.in_ok-smap.smap, c.in_ok-smap.end) ≡ find_tag tag-SMAP c.args.room.now c.args.b c.args.z = search rules in
    let i = nth_at _ _ _ _ _ _ _ found in
    omega arith
