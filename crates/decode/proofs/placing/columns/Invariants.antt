use Rattle.std.proofs.Common.{◌≡◌, true, ◌*◌, take, drop}
use Rattle.strip.specs.Picture.{up_to}
use Rattle.strip.proofs.PictureLaws.{pixel_at}
use Rattle.decode.proofs.placing.columns.Given as goal

abbrev pub invariant-loop-y : goal.invariant-loop-y
invariant-loop-y l =
    (drop (8 * l.y) l.out ≡ drop (8 * l.y) l.initial.out)
    × (take (8 * l.y) l.out ≡ up_to (pixel_at true l.h l.src) (8 * l.y))
