use Rattle.std.proofs.Common.{◌≡◌}
use Rattle.grid.specs.Grid.{upd}
use Rattle.scene.specs.Painting.{pixel_layout, mask_layout}
use Rattle.layers.specs.Decoded.{decoded, entries_of}
use Rattle.layers.specs.Layer.{over_byte}
use Rattle.repaint.proofs.entries.entries_strip.Given as goal

abbrev pub invariant-loop-i : goal.invariant-loop-i
invariant-loop-i l =
    (l.pixels ≡ upd (over_byte (pixel_layout (decoded l.painting.bytes.now l.painting.room)) (entries_of l.painting.shown.now l.i) l.k) l.initial.pixels)
    × (l.masks ≡ upd (over_byte (mask_layout (decoded l.painting.bytes.now l.painting.room)) (entries_of l.painting.shown.now l.i) l.k) l.initial.masks)
