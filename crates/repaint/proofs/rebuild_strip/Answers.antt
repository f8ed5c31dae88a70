use Rattle.layers.proofs.LayerLaws.{fresh_over}
use Rattle.repaint.proofs.rebuild_strip.Goals as goal

-- `repaint::rebuild_strip` meets its contract. Assumes nothing.

pub returns : goal.returns
returns c =
    let entries-strip = c.entries_strip in
    let room-strip = c.room_strip in
    let own = room-strip.ensures in
    let over = entries-strip.ensures in record {
      pixels_after = fresh_over _ _ _ _ _ _ own.pixels_after over.pixels_after;
      masks_after = fresh_over _ _ _ _ _ _ own.masks_after over.masks_after;
    }
