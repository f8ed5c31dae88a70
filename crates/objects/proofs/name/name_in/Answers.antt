use Rattle.std.proofs.Common.{arith, sym, ◌∙◌}
use Rattle.block.proofs.Laws.{need_at}
use Rattle.objects.proofs.name.name_in.Goals as goal

pub nul_from-requires : goal.nul_from-requires
nul_from-requires c =
    let i = need_at _ _ _ _ _ _ _ (sym c.in_ok-start.was ∙ c.need_tag.ensures) in
    omega arith
