use Rattle.std.proofs.Common.{arith, refl, sym, ◌∙◌}
use Rattle.image.proofs.GatherLaws.{offered_row, offered_none}
use Rattle.block.proofs.Laws.{need_at}
use Rattle.image.proofs.gather.offer_image.Goals as goal

-- `image::gather::offer_image` meets its contract. Assumes nothing.

pub image_row-row-requires : goal.image_row-row-requires
image_row-row-requires c =
    let i = need_at _ _ _ _ _ _ _ (sym c.in-Some.is ∙ c.need_tag.ensures) in
    omega arith

pub returns-in-Some : goal.returns-in-Some
returns-in-Some c =
    let offer-row = c.offer_row in let image-row = c.image_row-row in let need-tag = c.need_tag in
    offered_row _ _ _ _ _ _ _ _ (sym c.in-Some.is ∙ need-tag.ensures) (rw image-row.ensures at offer-row.ensures)

pub returns-in_default : goal.returns-in_default
returns-in_default c = offered_none _ _ _ _ _ _ (sym c.in_default.is ∙ c.need_tag.ensures) refl
