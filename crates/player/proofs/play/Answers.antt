-- A head that was read is that of an allowed room.
use Rattle.std.proofs.Common.{sym, ◌∙◌}
use Rattle.room.proofs.HeadLaws.{head_sound}
use Rattle.player.proofs.play.Goals as goal

pub sums-requires-clause-sizes_allowed : goal.sums-requires-clause-sizes_allowed
sums-requires-clause-sizes_allowed g c =
    let sound = head_sound _ _ (sym c.in-Ok.is ∙ c.read_head.ensures) in
    (sound.widest, sound.highest, sound.few)
