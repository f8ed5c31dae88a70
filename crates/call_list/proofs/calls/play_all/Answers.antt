use Rattle.std.proofs.Common.{refl}
use Rattle.scene.specs.Calls.{after_all}
use Rattle.play.specs.Bytes.{lent, played}
use Rattle.call_list.specs.Coded.{calls_of}
use Rattle.call_list.specs.Run.{put_first}
use Rattle.call_list.proofs.RunLaws.{turn_bytes, turn_numbers}
use Rattle.call_list.proofs.calls.play_all.Goals as goal

-- Each turn plays one call more on what the calls before it left. Assumes nothing.

pub loop-i-init : goal.loop-i-init
unfolding after_all played calls_of put_first
loop-i-init c = (refl, refl)

pub loop-i-preserved : goal.loop-i-preserved
loop-i-preserved c =
    let one = c.play_one in
    let turn = c.loop-i in
    let a = c.args in
    let x = lent a.session.now a.pixels.now a.masks.now in
    let y = lent turn.session turn.pixels turn.masks in
    let z = lent one.new.session one.new.pixels one.new.masks in (
      turn_bytes a.room.now x y a.calls.now turn.i turn.invariant.0 z one.ensures.lent_after,
      turn_numbers a.room.now x y a.calls.now turn.i turn.invariant.0 _ _ _ one.ensures.number turn.invariant.1,
    )
