-- The room of PlayedCalls, byte for byte, and what kg_load leaves of it: 16 by 2 pixels, 1 plane, and three objects whose images are one strip
-- wide. The load is accepted, which is all that demand 3 asks. Each lent buffer has a byte more than the calls need, 0xEE, which stays.
use Rattle.std.proofs.Common.{◌≡◌, refl, List, [], ◌∷◌, ◌++◌, ℕ, ◌-◌, length, replicate, Ok}
use Rattle.number.specs.Buffer.{over}
use Rattle.bits.specs.Bits.{low_bits, bits_of}
use Rattle.grid.specs.Grid.{upd, within, boxed}
use Rattle.strip.specs.Strip.{decode}
use Rattle.strip.specs.Picture.{five_from, kind_of, placed, coded_of, strip_of}
use Rattle.plane.specs.Mask.{rows_of}
use Rattle.block.specs.Tag.{container}
use Rattle.block.specs.Tree.{block_end, walk, run, block_ok, well_formed, tagged, payload, each_has}
use Rattle.table.specs.Table.{offset_at, offset_right, offsets_right, table_right}
use Rattle.table.specs.Body.{body_end, body_of, strip_at, rows_at, pixel_at, mask_at}
use Rattle.table.specs.Test.{strip_test, leftmost, block_test}
use Rattle.room.specs.Head.{headed_in, background_in, needed_in, objects_right, trns_in, sizes_right, room_of, sized, head_of}
use Rattle.room.specs.Picture.{plane_test, smap_and_planes_test}
use Rattle.room.specs.Test.{pictures_test, short, after_head, room_test}
use Rattle.room.specs.declared.Room.{Room}
use Rattle.load.specs.Load.{background, mask, loaded_pixels, loaded_masks}
use Rattle.stored.specs.Bytes.{emptied}
use Rattle.play.specs.Bytes.{Lent, lent, test_of, after_load}

-- ---- the room

-- ROOM's header; RMHD 16, 2, 3
abbrev header : List ℕ
header =
    (0x52 ∷ 0x4F ∷ 0x4F ∷ 0x4D ∷ 0x00 ∷ 0x00 ∷ 0x01 ∷ 0x83 ∷ [])
    ++ (0x52 ∷ 0x4D ∷ 0x48 ∷ 0x44 ∷ 0x00 ∷ 0x00 ∷ 0x00 ∷ 0x0E ∷ 0x10 ∷ 0x00 ∷ 0x02 ∷ 0x00 ∷ 0x03 ∷ 0x00 ∷ [])

-- RMIM; RMIH 1; IM00; SMAP with the offsets 16 and 22; document 01's worked rows 3 and 5 as strips; ZP01 with the offsets 0 and 12; two literal rows
abbrev rmim : List ℕ
rmim =
    (0x52 ∷ 0x4D ∷ 0x49 ∷ 0x4D ∷ 0x00 ∷ 0x00 ∷ 0x00 ∷ 0x44 ∷ [])
    ++ (0x52 ∷ 0x4D ∷ 0x49 ∷ 0x48 ∷ 0x00 ∷ 0x00 ∷ 0x00 ∷ 0x0A ∷ 0x01 ∷ 0x00 ∷ [])
    ++ (0x49 ∷ 0x4D ∷ 0x30 ∷ 0x30 ∷ 0x00 ∷ 0x00 ∷ 0x00 ∷ 0x32 ∷ [])
    ++ (0x53 ∷ 0x4D ∷ 0x41 ∷ 0x50 ∷ 0x00 ∷ 0x00 ∷ 0x00 ∷ 0x1B ∷ 0x10 ∷ 0x00 ∷ 0x00 ∷ 0x00 ∷ 0x16 ∷ 0x00 ∷ 0x00 ∷ 0x00 ∷ [])
    ++ (0x1C ∷ 0x05 ∷ 0xB6 ∷ 0x97 ∷ 0x00 ∷ 0x00 ∷ [])
    ++ (0x1B ∷ 0x05 ∷ 0x80 ∷ 0xFC ∷ 0x00 ∷ [])
    ++ (0x5A ∷ 0x50 ∷ 0x30 ∷ 0x31 ∷ 0x00 ∷ 0x00 ∷ 0x00 ∷ 0x0F ∷ 0x00 ∷ 0x00 ∷ 0x0C ∷ 0x00 ∷ 0x02 ∷ 0x81 ∷ 0x0F ∷ [])

-- OBIM; IMHD id 5, 1 image, x 8, y 0, 8 by 2; IM01; SMAP with the offset 12; a raw strip with a 255 in it; ZP01 with the offset 10; two literal rows
abbrev obim5 : List ℕ
obim5 =
    (0x4F ∷ 0x42 ∷ 0x49 ∷ 0x4D ∷ 0x00 ∷ 0x00 ∷ 0x00 ∷ 0x52 ∷ [])
    ++ (0x49 ∷ 0x4D ∷ 0x48 ∷ 0x44 ∷ 0x00 ∷ 0x00 ∷ 0x00 ∷ 0x18 ∷ [])
    ++ (0x05 ∷ 0x00 ∷ 0x01 ∷ 0x00 ∷ 0x00 ∷ 0x00 ∷ 0x00 ∷ 0x00 ∷ 0x08 ∷ 0x00 ∷ 0x00 ∷ 0x00 ∷ 0x08 ∷ 0x00 ∷ 0x02 ∷ 0x00 ∷ [])
    ++ (0x49 ∷ 0x4D ∷ 0x30 ∷ 0x31 ∷ 0x00 ∷ 0x00 ∷ 0x00 ∷ 0x32 ∷ [])
    ++ (0x53 ∷ 0x4D ∷ 0x41 ∷ 0x50 ∷ 0x00 ∷ 0x00 ∷ 0x00 ∷ 0x1D ∷ 0x0C ∷ 0x00 ∷ 0x00 ∷ 0x00 ∷ [])
    ++ (0x01 ∷ 0x21 ∷ 0x22 ∷ 0x23 ∷ 0xFF ∷ 0x25 ∷ 0x26 ∷ 0x27 ∷ 0x28 ∷ 0x29 ∷ 0x2A ∷ 0x2B ∷ 0x2C ∷ 0x2D ∷ 0x2E ∷ 0x2F ∷ 0x30 ∷ [])
    ++ (0x5A ∷ 0x50 ∷ 0x30 ∷ 0x31 ∷ 0x00 ∷ 0x00 ∷ 0x00 ∷ 0x0D ∷ 0x0A ∷ 0x00 ∷ 0x02 ∷ 0xC3 ∷ 0x42 ∷ [])

-- OBIM; IMHD id 7, 1 image, x 0, y 0, 8 by 2; IM01; SMAP with the offset 12; a vertical strip, 12: eight 11, then by `10` and eight bits eight 12; no ZP01
abbrev obim7 : List ℕ
obim7 =
    (0x4F ∷ 0x42 ∷ 0x49 ∷ 0x4D ∷ 0x00 ∷ 0x00 ∷ 0x00 ∷ 0x39 ∷ [])
    ++ (0x49 ∷ 0x4D ∷ 0x48 ∷ 0x44 ∷ 0x00 ∷ 0x00 ∷ 0x00 ∷ 0x18 ∷ [])
    ++ (0x07 ∷ 0x00 ∷ 0x01 ∷ 0x00 ∷ 0x00 ∷ 0x00 ∷ 0x00 ∷ 0x00 ∷ 0x00 ∷ 0x00 ∷ 0x00 ∷ 0x00 ∷ 0x08 ∷ 0x00 ∷ 0x02 ∷ 0x00 ∷ [])
    ++ (0x49 ∷ 0x4D ∷ 0x30 ∷ 0x31 ∷ 0x00 ∷ 0x00 ∷ 0x00 ∷ 0x19 ∷ [])
    ++ (0x53 ∷ 0x4D ∷ 0x41 ∷ 0x50 ∷ 0x00 ∷ 0x00 ∷ 0x00 ∷ 0x11 ∷ 0x0C ∷ 0x00 ∷ 0x00 ∷ 0x00 ∷ [])
    ++ (0x12 ∷ 0x11 ∷ 0x80 ∷ 0x24 ∷ 0x00 ∷ [])

-- OBIM; IMHD id 9, 1 image, x 8, y 1, 8 by 1; IM01; SMAP with the offset 12; a transparent strip, 58: 255, kept, 31, plus 1, a run of 3, 255; ZP01 with
-- the offset 10; one copy of 18
abbrev obim9 : List ℕ
obim9 =
    (0x4F ∷ 0x42 ∷ 0x49 ∷ 0x4D ∷ 0x00 ∷ 0x00 ∷ 0x00 ∷ 0x47 ∷ [])
    ++ (0x49 ∷ 0x4D ∷ 0x48 ∷ 0x44 ∷ 0x00 ∷ 0x00 ∷ 0x00 ∷ 0x18 ∷ [])
    ++ (0x09 ∷ 0x00 ∷ 0x01 ∷ 0x00 ∷ 0x00 ∷ 0x00 ∷ 0x00 ∷ 0x00 ∷ 0x08 ∷ 0x00 ∷ 0x01 ∷ 0x00 ∷ 0x08 ∷ 0x00 ∷ 0x01 ∷ 0x00 ∷ [])
    ++ (0x49 ∷ 0x4D ∷ 0x30 ∷ 0x31 ∷ 0x00 ∷ 0x00 ∷ 0x00 ∷ 0x27 ∷ [])
    ++ (0x53 ∷ 0x4D ∷ 0x41 ∷ 0x50 ∷ 0x00 ∷ 0x00 ∷ 0x00 ∷ 0x13 ∷ 0x0C ∷ 0x00 ∷ 0x00 ∷ 0x00 ∷ [])
    ++ (0x58 ∷ 0xFF ∷ 0x8A ∷ 0xB9 ∷ 0x73 ∷ 0xA0 ∷ 0x7F ∷ [])
    ++ (0x5A ∷ 0x50 ∷ 0x30 ∷ 0x31 ∷ 0x00 ∷ 0x00 ∷ 0x00 ∷ 0x0C ∷ 0x0A ∷ 0x00 ∷ 0x81 ∷ 0x18 ∷ [])

-- OBCD; CDHD with the id, at strip 1, one strip wide and high
abbrev obcd : (id : ℕ) → List ℕ
obcd id =
    (0x4F ∷ 0x42 ∷ 0x43 ∷ 0x44 ∷ 0x00 ∷ 0x00 ∷ 0x00 ∷ 0x1D ∷ [])
    ++ (0x43 ∷ 0x44 ∷ 0x48 ∷ 0x44 ∷ 0x00 ∷ 0x00 ∷ 0x00 ∷ 0x15 ∷ [])
    ++ (id ∷ 0x00 ∷ 0x01 ∷ 0x00 ∷ 0x01 ∷ 0x01 ∷ 0x00 ∷ 0x00 ∷ 0x00 ∷ 0x00 ∷ 0x00 ∷ 0x00 ∷ 0x00 ∷ [])

-- 387 bytes; object 1 has the id 7, object 2 the id 5, object 3 the id 9
abbrev pub room : List ℕ
room = header ++ rmim ++ obim5 ++ obim7 ++ obim9 ++ obcd 7 ++ obcd 5 ++ obcd 9

-- its sizes, and where its picture stands
abbrev pub sizes : Room
sizes = record { width = 16; height = 2; planes = 1; objects = 3; image = 48; image_end = 90; smap = 48; smap_end = 75; clear = 255 }

-- ---- the lent bytes

-- what kg_load is lent
abbrev pub given : Lent
given = lent (replicate 451 0xEE) (replicate 33 0xEE) (replicate 5 0xEE)

-- a session's 450 bytes: the counts of steps and entries, from 2 on the bytes of steps, from 322 on those of entries; zeros elsewhere
abbrev pub session_with : (steps entries : ℕ) → (from2 from322 : List ℕ) → List ℕ
session_with steps entries from2 from322 =
    (steps ∷ entries ∷ []) ++ from2 ++ replicate (320 - length from2) 0x00 ++ from322 ++ replicate (128 - length from322) 0x00 ++ (0xEE ∷ [])

-- the pixels and the masks with the two rows of strip 1; strip 0 is the background's, for no call touches it
abbrev pub pixels_with : (upper lower : List ℕ) → List ℕ
pixels_with upper lower = (0x05 ∷ 0x05 ∷ 0x04 ∷ 0x03 ∷ 0x04 ∷ 0x09 ∷ 0x09 ∷ 0x09 ∷ []) ++ upper ++ replicate 8 0x09 ++ lower ++ (0xEE ∷ [])

abbrev pub masks_with : (upper lower : ℕ) → List ℕ
masks_with upper lower = 0x00 ∷ upper ∷ 0x00 ∷ lower ∷ 0xEE ∷ []

-- ---- the load

-- an empty session, the background and its plane
abbrev pub loaded : Lent
loaded = lent (session_with 0 0 [] []) (pixels_with (replicate 8 0x05) (replicate 8 0x7E)) (masks_with 0x81 0x0F)

-- the load is accepted with these sizes, and leaves these bytes
pub load_is : (test_of room given ≡ Ok sizes) × (after_load room given ≡ loaded)
unfolding low_bits bits_of decode five_from kind_of placed coded_of strip_of rows_of container block_end walk run block_ok well_formed tagged payload each_has
    offset_at offset_right offsets_right table_right body_end body_of strip_at rows_at strip_test leftmost block_test headed_in background_in needed_in
    objects_right trns_in sizes_right room_of sized head_of plane_test smap_and_planes_test pictures_test short after_head room_test upd within boxed pixel_at
    mask_at background mask loaded_pixels loaded_masks emptied over
load_is = (refl, refl)
