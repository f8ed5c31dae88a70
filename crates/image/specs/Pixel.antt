-- The pixels and masks of an object's image (document 01, "Sessions", "Painting afresh"): strip j, row r, column c of the image of
-- object o in state st, and plane k of the room, which has `planes`. An image is read where it passes its test; one that is refused has no
-- pixels and no bits.
use Rattle.std.specs.Prelude.{ℕ, ◌+◌, ◌*◌, ◌/◌, List, Bool, false, ◌&&◌, get_or, eqb, Option, Some, None, Result, Ok, Err}
use Rattle.block.specs.Tag.{tag-SMAP}
use Rattle.block.specs.Tree.{find_tag}
use Rattle.strip.specs.Picture.{Picture, refusal, picture}
use Rattle.table.specs.Body.{strip_at, pixels_of}
use Rattle.room.specs.Picture.{plane_in, found_mask}
use Rattle.image.specs.Image.{image_width, image_height, state_block}
use Rattle.image.specs.Fault.{image_fault}

-- an image has IMHD's width / 8 strips
abbrev pub image_strips : List ℕ → ℕ → ℕ
image_strips s o = image_width s o / 8

-- the SMAP block, and the block of plane k, in a state's block
abbrev pub smap_of : List ℕ → Option (ℕ × ℕ) → Option (ℕ × ℕ)
smap_of s (Some (b, z)) = find_tag tag-SMAP s (b + 8) z
smap_of s None = None

abbrev pub plane_of : List ℕ → ℕ → Option (ℕ × ℕ) → Option (ℕ × ℕ)
plane_of s k (Some (b, z)) = plane_in s (b + 8) z k
plane_of s k None = None

-- strip j of an SMAP block that was found
abbrev pub strip_of : (n h : ℕ) → List ℕ → ℕ → Option (ℕ × ℕ) → Picture
strip_of n h s j (Some (b, z)) = strip_at n h s b z j
strip_of n h s j None = refusal 2

-- what is read of an image, by its test
abbrev pub when_passed : {A : Type 0} → Result (Unit {0}) ℕ → (read : A) (unread : ℕ → A) → A
when_passed (Ok tt) read unread = read
when_passed (Err n) read unread = unread n

unfoldable pub image_strip : (planes : ℕ) → List ℕ → (o st j : ℕ) → Picture
image_strip planes s o st j =
    when_passed (image_fault planes s o st) (strip_of (image_strips s o) (image_height s o) s j (smap_of s (state_block s o st))) refusal

-- a pixel's value
unfoldable pub image_colour : (planes : ℕ) → List ℕ → (o st j r c : ℕ) → ℕ
image_colour planes s o st j r c = get_or (pixels_of (image_strip planes s o st j)) (8 * r + c) 0

-- the strip's code is a transparent one
abbrev pub clear_code : Picture → Bool
clear_code (refusal number) = false
clear_code (picture clear pixels) = clear

-- a pixel is transparent if its code is a transparent one and its value is the transparent index
unfoldable pub image_clear : (planes index : ℕ) → List ℕ → (o st j r c : ℕ) → Bool
image_clear planes index s o st j r c = clear_code (image_strip planes s o st j) && eqb (image_colour planes s o st j r c) index

-- the mask byte of plane k: 0 where there is no chunk or its offset is 0
unfoldable pub image_bits : (planes : ℕ) → List ℕ → (o st k j r : ℕ) → ℕ
image_bits planes s o st k j r =
    when_passed (image_fault planes s o st) (found_mask (image_strips s o) (image_height s o) s (plane_of s k (state_block s o st)) j r) (λ n. 0)
