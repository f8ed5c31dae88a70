use Rattle.std.proofs.Common.{◌≡◌, true, ◌+◌, ◌*◌, take, drop}
use Rattle.strip.specs.Picture.{up_to}
use Rattle.strip.proofs.PictureLaws.{pixel_at}
use Rattle.decode.proofs.placing.row.Given as goal

abbrev pub invariant-loop-c : goal.invariant-loop-c
invariant-loop-c l =
    (drop (8 * l.y + l.c) l.out ≡ drop (8 * l.y + l.c) l.initial.out)
    × (take (8 * l.y + l.c) l.out ≡ up_to (pixel_at true l.h l.src) (8 * l.y + l.c))
