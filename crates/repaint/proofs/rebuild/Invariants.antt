use Rattle.std.proofs.Common.{◌≡◌, not, ◌&&◌, eqb, ltb, get_or}
use Rattle.scene.specs.Painting.{pixel_layout, mask_layout, rebuilt_bytes}
use Rattle.layers.specs.Decoded.{decoded, entries_of}
use Rattle.repaint.proofs.rebuild.Given as goal

abbrev pub invariant-loop-k : goal.invariant-loop-k
invariant-loop-k l =
    (l.pixels ≡ rebuilt_bytes (pixel_layout (decoded l.room l.fn.r)) (entries_of l.shown l.n)
    (λ t. ltb t l.k && not (eqb (get_or l.touched t 0) 0)) l.initial.pixels)
    × (l.masks ≡ rebuilt_bytes (mask_layout (decoded l.room l.fn.r)) (entries_of l.shown l.n)
    (λ t. ltb t l.k && not (eqb (get_or l.touched t 0) 0)) l.initial.masks)
