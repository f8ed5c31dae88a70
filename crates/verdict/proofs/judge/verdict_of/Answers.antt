use Rattle.std.proofs.Common.{sym, ◌∙◌, arith}
use Rattle.image.proofs.ImageLaws.{state-at}
use Rattle.verdict.proofs.VerdictLaws.{right-none, right-wide, right-high, right_tested, drawable_there}
use Rattle.verdict.proofs.judge.verdict_of.Goals.{then-room-width-via-then-room-width, then-room-width-via-else-room-width+then-room-height}
use Rattle.verdict.proofs.judge.verdict_of.Goals as goal

-- `verdict::judge::verdict_of` meets its contract. Assumes nothing.

pub returns-then-not-image_drawable : goal.returns-then-not-image_drawable
returns-then-not-image_drawable c = right-none _ c.args.ready.room _ _ (sym c.if-not-image_drawable.true ∙ c.image_drawable.ensures)

pub returns-then-room-width : goal.returns-then-room-width
returns-then-room-width c =
    let pre = c.requires in
    let can = sym c.if-not-image_drawable.false ∙ c.image_drawable.ensures in elim c.then-room-width.branch [
      | then-room-width-via-then-room-width w ↦
          right-wide _ c.args.ready.room _ _ _ c.args.ready.ready c.args.ready.counted pre.0 pre.1 can _ c.wide_u32-width.ensures.0 w.if-room-width.true
      | then-room-width-via-else-room-width+then-room-height w ↦
          right-high _ c.args.ready.room _ _ _ c.args.ready.ready c.args.ready.counted pre.0 pre.1 can _ c.wide_u32-height.ensures.0 w.if-room-height.true
    ]

pub state_block-requires : goal.state_block-requires
state_block-requires c =
    let pre = c.requires in
    (c.args.ready.ready.gathered, pre.0, omega (arith, pre.1, c.args.ready.counted), pre.2)

pub unwrap-b-requires : goal.unwrap-b-requires
unwrap-b-requires c =
    drawable_there _ c.args.ready.room _ _ (sym c.if-not-image_drawable.false ∙ c.image_drawable.ensures) _ c.state_block.ensures

pub overflow_add-b : goal.overflow_add-b
overflow_add-b c =
    let in_room = state-at _ _ _ _ _ (sym c.unwrap-b.ensures ∙ c.state_block.ensures) in
    omega (arith, in_room, c.args.ready.ready.sound.small)

pub test_image-requires : goal.test_image-requires
test_image-requires c =
    let sound = c.args.ready.ready.sound in
    let in_room = state-at _ _ _ _ _ (sym c.unwrap-b.ensures ∙ c.state_block.ensures) in
    (omega (arith, c.if-room-width.false, sound.widest), omega (arith, c.if-room-height.false, sound.highest), sound.few, in_room.2)

pub returns-in-Ok : goal.returns-in-Ok
returns-in-Ok c =
    let pre = c.requires in
    right_tested _ c.args.ready.room _ _ _ c.args.ready.ready c.args.ready.counted pre.0 pre.1
    (sym c.if-not-image_drawable.false ∙ c.image_drawable.ensures) _ _ _ _ c.wide_u32-width.ensures.0 c.wide_u32-height.ensures.0
    (sym c.unwrap-b.ensures ∙ c.state_block.ensures) _ (sym c.in-Ok.is ∙ c.test_image.ensures)

pub returns-in-Err : goal.returns-in-Err
returns-in-Err c =
    let pre = c.requires in
    rw c.number.ensures
    (right_tested _ c.args.ready.room _ _ _ c.args.ready.ready c.args.ready.counted pre.0 pre.1
    (sym c.if-not-image_drawable.false ∙ c.image_drawable.ensures) _ _ _ _ c.wide_u32-width.ensures.0 c.wide_u32-height.ensures.0
    (sym c.unwrap-b.ensures ∙ c.state_block.ensures) _ (sym c.in-Err.is ∙ c.test_image.ensures))
