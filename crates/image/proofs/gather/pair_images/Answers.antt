use Rattle.std.proofs.Common.{arith, sym, ◌∙◌}
use Rattle.image.proofs.GatherLaws.{pair_none, pair_more, pair_all}
use Rattle.block.proofs.Laws.{nth_at}
use Rattle.image.proofs.gather.pair_images.Goals as goal

-- `image::gather::pair_images` meets its contract. Assumes nothing.

pub loop-b-init : goal.loop-b-init
loop-b-init c = pair_none _ _ _

pub offer_image-requires : goal.offer_image-requires
offer_image-requires c =
    let i = nth_at _ _ _ _ 0 _ _ (sym c.in-Some.is ∙ c.find_tag.ensures) in record {
      block_in_room = omega arith;
      table_fits = omega (arith, c.loop-b.invariant.same);
    }

pub loop-b-smaller : goal.loop-b-smaller
loop-b-smaller c =
    let find-tag = c.find_tag in
    let i = nth_at _ _ _ _ 0 _ _ (sym c.in-Some.is ∙ find-tag.ensures) in
    omega arith

pub loop-b-preserved : goal.loop-b-preserved
loop-b-preserved c =
    let offer-image = c.offer_image in let find-tag = c.find_tag in let loop = c.loop-b in
    pair_more _ _ _ _ _ _ _ _ loop.invariant (sym c.in-Some.is ∙ find-tag.ensures) offer-image.ensures

pub shape_of-table : goal.shape_of-table
shape_of-table c = c.loop-b.invariant.same

pub returns : goal.returns
returns c = pair_all _ _ _ _ _ c.loop-b.invariant (sym c.in_default.is ∙ c.find_tag.ensures)
