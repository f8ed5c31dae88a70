use Rattle.std.proofs.Common.{arith, ℕ, ◌/◌, refl, sym, ap, ◌∙◌}
use Rattle.layers.proofs.SourceLaws.{state_there, smap_there}
use Rattle.image.proofs.GatherLaws.{gathered-width, gathered-height}
use Rattle.image.proofs.ImageLaws.{state-at}
use Rattle.layers.proofs.entry.source_of.Goals as goal

-- `layers::entry::source_of` meets its contract. Assumes nothing.

pub unwrap-b-requires : goal.unwrap-b-requires
unwrap-b-requires c = state_there _ _ _ c.requires.has_smap _ c.state_block.ensures

pub overflow_add-b : goal.overflow_add-b
overflow_add-b c =
    let in_room = state-at _ _ _ _ _ (sym c.unwrap-b.ensures ∙ c.state_block.ensures) in
    omega (arith, in_room, c.requires.object_gathered.0.small)

pub find_tag-requires : goal.find_tag-requires
find_tag-requires c = (state-at _ _ _ _ _ (sym c.unwrap-b.ensures ∙ c.state_block.ensures)).2

pub unwrap-smap-requires : goal.unwrap-smap-requires
unwrap-smap-requires c =
    smap_there _ _ _ c.requires.has_smap _ _ (sym c.unwrap-b.ensures ∙ c.state_block.ensures) _ c.find_tag.ensures

pub overflow_add-result : goal.overflow_add-result
overflow_add-result c =
    let in_room = state-at _ _ _ _ _ (sym c.unwrap-b.ensures ∙ c.state_block.ensures) in
    omega (arith, in_room, c.requires.object_gathered.0.small)

pub returns : goal.returns
returns c =
    let table = c.requires.object_gathered in
    record {
      block = _;
      block_at = sym c.unwrap-b.ensures ∙ c.state_block.ensures;
      payload-at = refl;
      smap_at = sym c.unwrap-smap.ensures ∙ c.find_tag.ensures;
      strips_are = ap (λ (w : ℕ). w / 8) (gathered-width _ _ table.0 _ table.1 table.2);
      height_is = gathered-height _ _ table.0 _ table.1 table.2;
    }
