use Rattle.std.proofs.Common.{◌≡◌, false, take, drop}
use Rattle.strip.specs.Picture.{up_to}
use Rattle.strip.proofs.PictureLaws.{pixel_at}
use Rattle.decode.proofs.placing.rows.Given as goal

abbrev pub invariant-loop-i : goal.invariant-loop-i
invariant-loop-i l = (drop l.i l.out ≡ drop l.i l.initial.out) × (take l.i l.out ≡ up_to (pixel_at false l.h l.src) l.i)
