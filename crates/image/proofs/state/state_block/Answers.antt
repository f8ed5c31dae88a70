use Rattle.std.proofs.Common.{arith, ◌∙◌}
use Rattle.image.proofs.GatherLaws.{gathered-start, gathered-end}
use Rattle.image.proofs.ImageLaws.{image-end, state_none, state_some}
use Rattle.image.proofs.state.state_block.Goals as goal

-- `image::state::state_block` meets its contract. Assumes nothing.

pub returns-then-start-eq0 : goal.returns-then-start-eq0
returns-then-start-eq0 c =
    let a = c.args in let pre = c.requires in
    state_none _ a.o _ _ (gathered-start _ _ pre.0 _ pre.1 pre.2) c.if-start-eq0.true

pub find_tag-requires : goal.find_tag-requires
find_tag-requires c =
    let a = c.args in let pre = c.requires in
    let ends = gathered-end _ _ pre.0 _ pre.1 pre.2 in
    omega (arith, ends, image-end a.room.now a.o)

pub returns : goal.returns
returns c =
    let a = c.args in let pre = c.requires in
    c.find_tag.ensures ∙ state_some _ a.o a.st _ (gathered-start _ _ pre.0 _ pre.1 pre.2) c.if-start-eq0.false _
    (gathered-end _ _ pre.0 _ pre.1 pre.2)
