-- Where a picture is read from, a room's background or an object's image: the payload of the block that holds it, its SMAP block with
-- its header, and its sizes (document 01, "Blocks", "Sessions").
-- For the proofs: no public promise rests on what this page says.
use Rattle.std.specs.Prelude.{ℕ, ◌+◌, ◌-◌, ◌*◌, ◌/◌, ◌%◌, ◌≤◌, ◌≡◌, Bool, false, cond, List, length, get_or, Some, Ok}
use Rattle.block.specs.Tag.{tag-SMAP}
use Rattle.block.specs.Tree.{find_tag}
use Rattle.grid.specs.Grid.{within}
use Rattle.grid.specs.Mask.{mask_over}
use Rattle.grid.specs.Strip.{pixel_over}
use Rattle.strip.specs.Picture.{Picture}
use Rattle.table.specs.Body.{strip_at, pixels_of}
use Rattle.table.specs.Test.{block_test}
use Rattle.room.specs.Picture.{plane_in, found_mask, plane_test}
use Rattle.image.specs.Image.{image_height, state_block}
use Rattle.image.specs.Pixel.{image_strips, clear_code}
use Rattle.layers.specs.declared.Source.{Source}
use Rattle.layers.specs.Layer.{strip_byte, none_clear}

-- its SMAP lies in the room and passes its test
pub record Readable (s : List ℕ) (m : Source) : Type 0 where
  pub narrow : m.strips ≤ 128
  pub low : m.height ≤ 200
  pub smap_in : m.smap ≤ m.smap_end
  pub smap-last : m.smap_end ≤ length s
  pub payload-last : m.payload_end ≤ length s
  pub smap-passes : block_test false m.strips m.height s m.smap m.smap_end ≡ Ok tt

-- plane p passes its test
abbrev pub PlanePasses : List ℕ → Source → ℕ → Type 0
PlanePasses s m p = plane_test m.strips m.height s m.payload m.payload_end p ≡ Ok tt

-- strip j
abbrev pub strip_in : List ℕ → Source → ℕ → Picture
strip_in s m j = strip_at m.strips m.height s m.smap m.smap_end j

-- strip j, row y of plane p; 0 where there is no chunk or its offset is 0
abbrev pub mask_in : List ℕ → Source → (p j y : ℕ) → ℕ
mask_in s m p j y = found_mask m.strips m.height s (plane_in s m.payload m.payload_end p) j y

-- pixel i of a strip, counted by rows, over the colour `old`; `index` is the transparent one
unfoldable pub picture_over : (index : ℕ) → Picture → ℕ → ℕ → ℕ
picture_over index p i old = pixel_over index (clear_code p) (get_or (pixels_of p) i 0) old

-- of the first n pixels of a strip, none is transparent
abbrev pub picture_opaque : (index : ℕ) → Picture → ℕ → Bool
picture_opaque index p n = none_clear index (clear_code p) (pixels_of p) n

-- strip j of every plane over strip k of the masks of n strips of h rows, from row y on
unfoldable pub rows_byte : List ℕ → Source → (j n h k y : ℕ) → Bool → ℕ → ℕ → ℕ
rows_byte s m j n h k y replace i old =
    let row = i / n % h in
    let new = mask_in s m (i / n / h + 1) j (row - y) in
    cond (within y m.height row) (mask_over replace new old) old

-- the same in planes 1 to `planes`
abbrev pub planes_byte : List ℕ → Source → (j n h planes k y : ℕ) → Bool → ℕ → ℕ → ℕ
planes_byte s m j n h planes k y replace = strip_byte (planes * h * n) (λ i. i % n) k (rows_byte s m j n h k y replace)

-- the image of object o in state st
pub record Stands (s : List ℕ) (o st : ℕ) (m : Source) : Type 0 where
  pub block : ℕ
  pub block_at : Some (block, m.payload_end) ≡ state_block s o st
  pub payload-at : m.payload ≡ block + 8
  pub smap_at : Some (m.smap, m.smap_end) ≡ find_tag tag-SMAP s m.payload m.payload_end
  pub strips_are : m.strips ≡ image_strips s o
  pub height_is : m.height ≡ image_height s o
