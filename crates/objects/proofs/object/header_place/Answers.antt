use Rattle.std.proofs.Common.{sym, ◌∙◌}
use Rattle.objects.proofs.ObjectLaws.{chosen_at}
use Rattle.objects.proofs.object.header_place.Goals as goal

pub cdhd_in-requires : goal.cdhd_in-requires
cdhd_in-requires c =
    let i = chosen_at _ _ _ _ _ (sym c.in_ok-b.was ∙ c.chosen_block.ensures) in
    (i.1, i.2)
