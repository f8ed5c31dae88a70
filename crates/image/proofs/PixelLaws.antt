-- Laws of an image's pixels: what they are in the blocks that were found.
use Rattle.std.proofs.Common.{◌≡◌, List, ℕ, ◌+◌, Some, Ok}
use Rattle.block.specs.Tag.{tag-SMAP}
use Rattle.block.specs.Tree.{find_tag}
use Rattle.table.specs.Body.{strip_at}
use Rattle.room.specs.Picture.{plane_in, found_mask}
use Rattle.image.specs.Image.{image_height, state_block}
use Rattle.image.specs.Fault.{image_fault}
use Rattle.image.specs.Pixel.{image_strips, image_strip, image_bits}

module _ (planes : ℕ) (s : List ℕ) (o st b z : ℕ) (at : Some (b, z) ≡ state_block s o st) (passed : image_fault planes s o st ≡ Ok tt) where
  -- a strip is that of the state's SMAP
  pub image_strip_at : (smap end : ℕ) → Some (smap, end) ≡ find_tag tag-SMAP s (b + 8) z → (j : ℕ)
      → image_strip planes s o st j ≡ strip_at (image_strips s o) (image_height s o) s smap end j
  unfolding image_strip
  image_strip_at smap end found j = rw (passed, ← at, ← found)

  -- a mask byte is that of the plane in the state's block
  pub image_bits_at : (k j r : ℕ) → image_bits planes s o st k j r ≡ found_mask (image_strips s o) (image_height s o) s (plane_in s (b + 8) z k) j r
  unfolding image_bits
  image_bits_at k j r = rw (passed, ← at)
