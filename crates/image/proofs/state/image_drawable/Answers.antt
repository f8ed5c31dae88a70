use Rattle.std.proofs.Common.{arith, sym, ◌∙◌}
use Rattle.std.proofs.lemmas.Bool.{not_from_false, not_from_true}
use Rattle.image.proofs.ImageLaws.{object_right, not_object, an_object, state_bound, drawable_object, drawable_state, drawable_block}
use Rattle.image.proofs.GatherLaws.{gathered-count}
use Rattle.image.proofs.state.image_drawable.Goals as goal

-- `image::state::image_drawable` meets its contract. Assumes nothing.

pub returns-then-not-o-objects : goal.returns-then-not-o-objects
returns-then-not-o-objects c =
    let a = c.args in
    drawable_object _ a.o a.st (not_object _ _ c.requires.1 c.args.o (not_from_false _ c.if-not-o-objects.true))

pub returns-then-not-state_right : goal.returns-then-not-state_right
returns-then-not-state_right c =
    let if1 = c.if-not-o-objects in let a = c.args in
    let pre = c.requires in
    let i = object_right a.room.now a.o (an_object _ _ pre.1 a.o (not_from_true _ if1.false)) in
    drawable_state _ a.o a.st _ (gathered-count _ _ pre.0 _ i.0 i.1) (sym c.state_right.ensures ∙ c.if-not-state_right.true)

pub returns : goal.returns
returns c =
    let a = c.args in let pre = c.requires in
    let held = an_object _ _ pre.1 a.o (not_from_true _ c.if-not-o-objects.false) in
    let i = object_right a.room.now a.o held in
    c.is_some.ensures
    ∙ drawable_block a.room.now a.o a.st _ (gathered-count _ _ pre.0 _ i.0 i.1)
    held (sym c.state_right.ensures ∙ c.if-not-state_right.false) _ c.state_block.ensures
