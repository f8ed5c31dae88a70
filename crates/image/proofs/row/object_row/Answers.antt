use Rattle.std.proofs.Common.{arith, sym, ◌∙◌}
use Rattle.image.proofs.RowLaws.{header-start, header-none}
use Rattle.block.proofs.Laws.{need_at}
use Rattle.image.proofs.row.object_row.Goals as goal

pub header_row-requires : goal.header_row-requires
header_row-requires c =
    let i = need_at _ _ _ _ _ _ _ (sym c.in-Some.is ∙ c.need_tag.ensures) in
    omega arith

pub returns-in-Some : goal.returns-in-Some
returns-in-Some c =
    let at = sym c.in-Some.is ∙ c.need_tag.ensures in
    rw (← at) (c.header_row.ensures ∙ header-start _ _ _ _ _)

pub returns-in-None : goal.returns-in-None
returns-in-None c =
    let none = sym c.in-None.is ∙ c.need_tag.ensures in
    rw (← none) (header-none _ _)
