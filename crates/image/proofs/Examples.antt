-- A small room worked out, so that the definitions are seen at work. Assumes nothing.
use Rattle.std.proofs.Common.{◌≡◌, refl, List, [], ◌∷◌, true, false, ℕ, Some, None, Ok, Err}
use Rattle.block.specs.Tree.{block_end, walk, run, tagged, payload}
use Rattle.bits.specs.Bits.{low_bits, bits_of}
use Rattle.strip.specs.Strip.{decode}
use Rattle.strip.specs.Picture.{five_from, kind_of, placed, coded_of, strip_of}
use Rattle.plane.specs.Mask.{rows_of}
use Rattle.table.specs.Table.{offset_at, offset_right, offsets_right, table_right}
use Rattle.table.specs.Body.{body_end, body_of, strip_at, rows_at, mask_at}
use Rattle.table.specs.Test.{strip_test, leftmost, block_test}
use Rattle.room.specs.Picture.{plane_test, smap_and_planes_test}
use Rattle.objects.specs.Object.{object_block}
use Rattle.image.specs.Image.{object_count, object_id, has_id, first_of, image_block, image_count, home_x, home_y, image_width, image_height, state_block, drawable}
use Rattle.image.specs.Fault.{image_test, image_fault}
use Rattle.image.specs.Pixel.{image_strip, image_colour, image_clear, image_bits}

-- two objects, of which the first has two OBIMs of its id and the second has none
abbrev room : List ℕ
room =
    -- ROOM, of 220 bytes
    0x52 ∷ 0x4F ∷ 0x4F ∷ 0x4D ∷ 0x00 ∷ 0x00 ∷ 0x00 ∷ 0xDC ∷
    -- an OBIM of id 9, which no OBCD has, in [8, 40)
    0x4F ∷ 0x42 ∷ 0x49 ∷ 0x4D ∷ 0x00 ∷ 0x00 ∷ 0x00 ∷ 0x20 ∷ 0x49 ∷ 0x4D ∷ 0x48 ∷ 0x44 ∷ 0x00 ∷ 0x00 ∷ 0x00 ∷ 0x18 ∷
    0x09 ∷ 0x00 ∷ 0x01 ∷ 0x00 ∷ 0x00 ∷ 0x00 ∷ 0x00 ∷ 0x00 ∷ 0x01 ∷ 0x00 ∷ 0x01 ∷ 0x00 ∷ 0x08 ∷ 0x00 ∷ 0x01 ∷ 0x00 ∷
    -- object 1, of id 7, in [40, 69)
    0x4F ∷ 0x42 ∷ 0x43 ∷ 0x44 ∷ 0x00 ∷ 0x00 ∷ 0x00 ∷ 0x1D ∷ 0x43 ∷ 0x44 ∷ 0x48 ∷ 0x44 ∷ 0x00 ∷ 0x00 ∷ 0x00 ∷ 0x15 ∷
    0x07 ∷ 0x00 ∷ 0x00 ∷ 0x00 ∷ 0x01 ∷ 0x01 ∷ 0x00 ∷ 0x00 ∷ 0x00 ∷ 0x00 ∷ 0x00 ∷ 0x00 ∷ 0x00 ∷
    -- the first OBIM of id 7, in [69, 136), with numImages 1: IM01 in [101, 136) has SMAP and ZP01
    0x4F ∷ 0x42 ∷ 0x49 ∷ 0x4D ∷ 0x00 ∷ 0x00 ∷ 0x00 ∷ 0x43 ∷ 0x49 ∷ 0x4D ∷ 0x48 ∷ 0x44 ∷ 0x00 ∷ 0x00 ∷ 0x00 ∷ 0x18 ∷
    0x07 ∷ 0x00 ∷ 0x01 ∷ 0x00 ∷ 0x00 ∷ 0x00 ∷ 0x00 ∷ 0x00 ∷ 0x08 ∷ 0x00 ∷ 0x02 ∷ 0x00 ∷ 0x08 ∷ 0x00 ∷ 0x01 ∷ 0x00 ∷
    0x49 ∷ 0x4D ∷ 0x30 ∷ 0x31 ∷ 0x00 ∷ 0x00 ∷ 0x00 ∷ 0x23 ∷ 0x53 ∷ 0x4D ∷ 0x41 ∷ 0x50 ∷ 0x00 ∷ 0x00 ∷ 0x00 ∷ 0x0F ∷
    0x0C ∷ 0x00 ∷ 0x00 ∷ 0x00 ∷ 0x30 ∷ 0xFF ∷ 0x00 ∷ 0x5A ∷ 0x50 ∷ 0x30 ∷ 0x31 ∷ 0x00 ∷ 0x00 ∷ 0x00 ∷ 0x0C ∷ 0x0A ∷
    0x00 ∷ 0x81 ∷ 0xF0 ∷
    -- object 2, of id 8, in [136, 165)
    0x4F ∷ 0x42 ∷ 0x43 ∷ 0x44 ∷ 0x00 ∷ 0x00 ∷ 0x00 ∷ 0x1D ∷ 0x43 ∷ 0x44 ∷ 0x48 ∷ 0x44 ∷ 0x00 ∷ 0x00 ∷ 0x00 ∷ 0x15 ∷
    0x08 ∷ 0x00 ∷ 0x00 ∷ 0x00 ∷ 0x01 ∷ 0x01 ∷ 0x00 ∷ 0x00 ∷ 0x00 ∷ 0x00 ∷ 0x00 ∷ 0x00 ∷ 0x00 ∷
    -- a second OBIM of id 7, in [165, 220), with IM02
    0x4F ∷ 0x42 ∷ 0x49 ∷ 0x4D ∷ 0x00 ∷ 0x00 ∷ 0x00 ∷ 0x37 ∷ 0x49 ∷ 0x4D ∷ 0x48 ∷ 0x44 ∷ 0x00 ∷ 0x00 ∷ 0x00 ∷ 0x18 ∷
    0x07 ∷ 0x00 ∷ 0x02 ∷ 0x00 ∷ 0x00 ∷ 0x00 ∷ 0x00 ∷ 0x00 ∷ 0x10 ∷ 0x00 ∷ 0x03 ∷ 0x00 ∷ 0x10 ∷ 0x00 ∷ 0x02 ∷ 0x00 ∷
    0x49 ∷ 0x4D ∷ 0x30 ∷ 0x32 ∷ 0x00 ∷ 0x00 ∷ 0x00 ∷ 0x17 ∷ 0x53 ∷ 0x4D ∷ 0x41 ∷ 0x50 ∷ 0x00 ∷ 0x00 ∷ 0x00 ∷ 0x0F ∷
    0x0C ∷ 0x00 ∷ 0x00 ∷ 0x00 ∷ 0x30 ∷ 0xFF ∷ 0x00 ∷
    []

-- ids, and images: the first OBIM of equal id, if any; an object that is not there has none
images : (object_count room ≡ 2) × (object_id room 1 ≡ 7) × (object_id room 2 ≡ 8) × (image_block room 1 ≡ Some (69, 136)) × (image_block room 2 ≡ None)
    × (image_block room 0 ≡ None) × (image_block room 3 ≡ None)
unfolding object_id image_block object_block first_of has_id tagged run walk block_end payload
images = (refl, refl, refl, refl, refl, refl, refl)

-- IMHD's numbers, 0 where there is no image
header : (home_x room 1 ≡ 8) × (home_y room 1 ≡ 2) × (image_width room 1 ≡ 8) × (image_height room 1 ≡ 1) × (image_count room 1 ≡ 1) × (home_x room 2 ≡ 0) ×
    (image_width room 2 ≡ 0)
unfolding home_x home_y image_width image_height image_count object_id image_block object_block first_of has_id tagged run walk block_end payload
header = (refl, refl, refl, refl, refl, refl, refl)

-- states: IM01 of the first OBIM; IM02 is above its numImages, and stands in the second
states : (state_block room 1 1 ≡ Some (101, 136)) × (state_block room 1 2 ≡ None) × (drawable room 1 1 ≡ true) × (drawable room 1 0 ≡ false) ×
    (drawable room 1 2 ≡ false)
    × (drawable room 2 1 ≡ false) × (drawable room 0 1 ≡ false) × (drawable room 3 1 ≡ false)
unfolding drawable state_block image_count object_id image_block object_block first_of has_id tagged run walk block_end payload
states = (refl, refl, refl, refl, refl, refl, refl, refl)

-- pixels: code 30 is a transparent one, and each value is 255, which is transparent where it is the room's index; masks: ZP01's row, and 0
-- for plane 2, which has no chunk
pixels : (image_colour 4 room 1 1 0 0 3 ≡ 255) × (image_clear 4 255 room 1 1 0 0 3 ≡ true) × (image_clear 4 254 room 1 1 0 0 3 ≡ false)
    × (image_bits 4 room 1 1 1 0 0 ≡ 0xF0) × (image_bits 4 room 1 1 2 0 0 ≡ 0)
unfolding image_colour image_clear image_bits image_strip image_fault image_test smap_and_planes_test plane_test block_test table_right offsets_right
    offset_right leftmost strip_test strip_at body_of body_end offset_at strip_of coded_of placed kind_of five_from decode low_bits bits_of mask_at rows_at
    rows_of state_block image_width image_height object_id image_block object_block first_of has_id tagged run walk block_end payload
pixels = (refl, refl, refl, refl, refl)

-- the image passes with any count of planes; one without SMAP is 2: here the payload of the OBIM of id 9
faults : (image_fault 0 room 1 1 ≡ Ok tt) × (image_fault 4 room 1 1 ≡ Ok tt) × (image_test 1 1 1 room 16 40 ≡ Err 2)
unfolding image_fault image_test smap_and_planes_test plane_test block_test table_right offsets_right offset_right leftmost strip_test strip_at body_of
    body_end offset_at strip_of coded_of placed kind_of five_from decode low_bits bits_of rows_at rows_of state_block image_width image_height object_id
    image_block object_block first_of has_id tagged run walk block_end payload
faults = (refl, refl, refl)
