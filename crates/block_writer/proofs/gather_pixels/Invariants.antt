use Rattle.std.proofs.Common.{◌≡◌, ◌*◌, get_or, take}
use Rattle.strip.specs.Picture.{up_to}
use Rattle.block_writer.specs.Block.{place_of}
use Rattle.block_writer.proofs.gather_pixels.Given as goal

abbrev pub invariant-loop-y : goal.invariant-loop-y
invariant-loop-y l = take (8 * l.y) l.out ≡ up_to (λ j. get_or l.src (place_of 8 l.wide l.k j) 0) (8 * l.y)
