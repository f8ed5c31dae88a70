-- Change request 9 computed on literal bytes, over what the contracts of kg_record, kg_load, kg_draw_last and kg_take_back promise: a room of 8 by 2
-- pixels and 1 plane whose TRNS block says 7, and the same room without one, whose index is 255. The room's one object has three states:
--
-- - State 1, code 30, a transparent one, with pixels of 7, 255 and 21. State 2 has the same pixels under code 1C, an opaque one.
-- - State 3, code 30, with pixels of 255 and 21 and none of 7.
--
-- The background has a 7 and a 255, which are painted as they are. TRNS stands behind all other blocks; its second byte and the second, empty TRNS count
-- for nothing. Each lent buffer has a byte more than the calls need, 0xEE, which stays.
use Rattle.std.proofs.Common.{◌≡◌, refl, List, [], ◌∷◌, ◌++◌, ℕ, ◌-◌, length, replicate, Ok, Err}
use Rattle.number.specs.Buffer.{over}
use Rattle.bits.specs.Bits.{low_bits, bits_of}
use Rattle.grid.specs.Grid.{upd, within, boxed}
use Rattle.strip.specs.Strip.{decode}
use Rattle.strip.specs.Picture.{five_from, kind_of, placed, raw_of, coded_of, strip_of}
use Rattle.plane.specs.Mask.{rows_of}
use Rattle.block.specs.Tag.{container}
use Rattle.block.specs.Tree.{block_end, walk, run, block_ok, well_formed, tagged, payload, each_has}
use Rattle.table.specs.Table.{offset_at, offset_right, offsets_right, table_right}
use Rattle.table.specs.Body.{body_end, body_of, strip_at, rows_at, pixel_at, mask_at}
use Rattle.table.specs.Test.{strip_test, leftmost, block_test}
use Rattle.room.specs.Head.{headed_in, background_in, needed_in, objects_right, trns_in, sizes_right, room_of, sized, head_of}
use Rattle.room.specs.Picture.{plane_test, smap_and_planes_test}
use Rattle.room.specs.Test.{pictures_test, short, after_head, room_test}
use Rattle.room.specs.declared.Room.{Room}
use Rattle.objects.specs.Object.{object_block}
use Rattle.objects.specs.Record.{record_bytes, record_test, record_after}
use Rattle.load.specs.Load.{background, mask, loaded_pixels, loaded_masks}
use Rattle.image.specs.Image.{object_id, has_id, first_of, image_block, image_count, home_x, home_y, image_width, image_height, state_block, drawable}
use Rattle.image.specs.Fault.{image_test, image_fault}
use Rattle.image.specs.Pixel.{image_strip, image_colour, image_clear, image_bits}
use Rattle.scene.specs.declared.Call.{Call}
use Rattle.scene.specs.declared.Call.TheVariants.{Make, TakeBack}
use Rattle.scene.specs.declared.Place.TheVariants.{Last}
use Rattle.scene.specs.declared.Step.TheVariants.{Draw}
use Rattle.scene.specs.Painting.{every, opaque, covers, reaches, over_pixel, over_mask, layered, pixel_layout, mask_layout, fresh_byte, new_byte, rebuilt_bytes}
use Rattle.scene.specs.Steps.{some, only, without, spot_of, entry_of, same_box, clash, removes, adds, moves, applied, touches, aligned, inside}
use Rattle.scene.specs.Steps as steps
use Rattle.scene.specs.Steps.{allowed, refusal, bare, replay, replays}
use Rattle.scene.specs.Session.{same_entry, same_list, right_for, scene_of, made, unmade, tried, called}
use Rattle.stored.specs.Bytes.{emptied, marks_from, all_placed, put_marks, session_of}
use Rattle.layers.specs.Decoded.{decoded}
use Rattle.play.specs.Bytes.{Lent, lent, test_of, after_load, number_by, after_by}

-- ---- the room

-- RMHD 8, 2, 1; RMIM; RMIH 1; IM00; SMAP with the offset 12; a raw strip; ZP01 with the offset 10; two literal rows
abbrev background_blocks : List ℕ
background_blocks =
    (0x52 ∷ 0x4D ∷ 0x48 ∷ 0x44 ∷ 0x00 ∷ 0x00 ∷ 0x00 ∷ 0x0E ∷ 0x08 ∷ 0x00 ∷ 0x02 ∷ 0x00 ∷ 0x01 ∷ 0x00 ∷ [])
    ++ (0x52 ∷ 0x4D ∷ 0x49 ∷ 0x4D ∷ 0x00 ∷ 0x00 ∷ 0x00 ∷ 0x44 ∷ 0x52 ∷ 0x4D ∷ 0x49 ∷ 0x48 ∷ 0x00 ∷ 0x00 ∷ 0x00 ∷ 0x0A ∷ 0x01 ∷ 0x00 ∷ [])
    ++ (0x49 ∷ 0x4D ∷ 0x30 ∷ 0x30 ∷ 0x00 ∷ 0x00 ∷ 0x00 ∷ 0x32 ∷ [])
    ++ (0x53 ∷ 0x4D ∷ 0x41 ∷ 0x50 ∷ 0x00 ∷ 0x00 ∷ 0x00 ∷ 0x1D ∷ 0x0C ∷ 0x00 ∷ 0x00 ∷ 0x00 ∷ [])
    ++ (0x01 ∷ 0x07 ∷ 0xFF ∷ 0x12 ∷ 0x13 ∷ 0x14 ∷ 0x15 ∷ 0x16 ∷ 0x17 ∷ 0x18 ∷ 0x19 ∷ 0x1A ∷ 0x1B ∷ 0x1C ∷ 0x1D ∷ 0x1E ∷ 0x1F ∷ [])
    ++ (0x5A ∷ 0x50 ∷ 0x30 ∷ 0x31 ∷ 0x00 ∷ 0x00 ∷ 0x00 ∷ 0x0D ∷ 0x0A ∷ 0x00 ∷ 0x02 ∷ 0x0F ∷ 0xF0 ∷ [])

-- IM0k; SMAP with the offset 12; a strip of the code: 7, kept, 255, kept, 21, kept, 7, kept, and 255 four times, 7 four times; ZP01 with the offset 10; two
-- literal rows
abbrev state : (digit code : ℕ) → List ℕ
state digit code =
    (0x49 ∷ 0x4D ∷ 0x30 ∷ digit ∷ 0x00 ∷ 0x00 ∷ 0x00 ∷ 0x2B ∷ [])
    ++ (0x53 ∷ 0x4D ∷ 0x41 ∷ 0x50 ∷ 0x00 ∷ 0x00 ∷ 0x00 ∷ 0x16 ∷ 0x0C ∷ 0x00 ∷ 0x00 ∷ 0x00 ∷ [])
    ++ (code ∷ 0x07 ∷ 0xFA ∷ 0x57 ∷ 0x88 ∷ 0x0E ∷ 0xF4 ∷ 0x8F ∷ 0x0E ∷ 0x00 ∷ [])
    ++ (0x5A ∷ 0x50 ∷ 0x30 ∷ 0x31 ∷ 0x00 ∷ 0x00 ∷ 0x00 ∷ 0x0D ∷ 0x0A ∷ 0x00 ∷ 0x02 ∷ 0x81 ∷ 0x18 ∷ [])

-- OBIM; IMHD id 5, 3 images, x 0, y 0, 8 by 2; IM01 and IM02 with the codes 30 and 1C; IM03 with the code 30: 255 eight times, 21 eight times
abbrev obim : List ℕ
obim =
    (0x4F ∷ 0x42 ∷ 0x49 ∷ 0x4D ∷ 0x00 ∷ 0x00 ∷ 0x00 ∷ 0x9C ∷ [])
    ++ (0x49 ∷ 0x4D ∷ 0x48 ∷ 0x44 ∷ 0x00 ∷ 0x00 ∷ 0x00 ∷ 0x18 ∷ [])
    ++ (0x05 ∷ 0x00 ∷ 0x03 ∷ 0x00 ∷ 0x00 ∷ 0x00 ∷ 0x00 ∷ 0x00 ∷ 0x00 ∷ 0x00 ∷ 0x00 ∷ 0x00 ∷ 0x08 ∷ 0x00 ∷ 0x02 ∷ 0x00 ∷ [])
    ++ state 0x31 0x30 ++ state 0x32 0x1C
    ++ (0x49 ∷ 0x4D ∷ 0x30 ∷ 0x33 ∷ 0x00 ∷ 0x00 ∷ 0x00 ∷ 0x26 ∷ [])
    ++ (0x53 ∷ 0x4D ∷ 0x41 ∷ 0x50 ∷ 0x00 ∷ 0x00 ∷ 0x00 ∷ 0x11 ∷ 0x0C ∷ 0x00 ∷ 0x00 ∷ 0x00 ∷ 0x30 ∷ 0xFF ∷ 0x80 ∷ 0x42 ∷ 0x00 ∷ [])
    ++ (0x5A ∷ 0x50 ∷ 0x30 ∷ 0x31 ∷ 0x00 ∷ 0x00 ∷ 0x00 ∷ 0x0D ∷ 0x0A ∷ 0x00 ∷ 0x02 ∷ 0x42 ∷ 0x24 ∷ [])

-- OBCD; CDHD with the id 5
abbrev obcd : List ℕ
obcd =
    (0x4F ∷ 0x42 ∷ 0x43 ∷ 0x44 ∷ 0x00 ∷ 0x00 ∷ 0x00 ∷ 0x1D ∷ 0x43 ∷ 0x44 ∷ 0x48 ∷ 0x44 ∷ 0x00 ∷ 0x00 ∷ 0x00 ∷ 0x15 ∷ [])
    ++ (0x05 ∷ 0x00 ∷ 0x00 ∷ 0x00 ∷ 0x01 ∷ 0x01 ∷ 0x00 ∷ 0x00 ∷ 0x00 ∷ 0x00 ∷ 0x00 ∷ 0x00 ∷ 0x00 ∷ [])

-- ROOM of the size 01xx in hexadecimal, with the blocks at its end
abbrev room_with : (size : ℕ) → List ℕ → List ℕ
room_with size last =
    (0x52 ∷ 0x4F ∷ 0x4F ∷ 0x4D ∷ 0x00 ∷ 0x00 ∷ 0x01 ∷ size ∷ []) ++ background_blocks ++ obim ++ obcd ++ last

-- TRNS 7, and a byte behind it; an empty TRNS
abbrev trns : List ℕ
trns = 0x54 ∷ 0x52 ∷ 0x4E ∷ 0x53 ∷ 0x00 ∷ 0x00 ∷ 0x00 ∷ 0x0A ∷ 0x07 ∷ 0xFF ∷ []

abbrev empty : List ℕ
empty = 0x54 ∷ 0x52 ∷ 0x4E ∷ 0x53 ∷ 0x00 ∷ 0x00 ∷ 0x00 ∷ 0x08 ∷ []

-- 293 bytes with the index 7; 275 without TRNS; 293 with the empty TRNS before the other
abbrev room7 : List ℕ
room7 = room_with 0x25 (trns ++ empty)

abbrev room255 : List ℕ
room255 = room_with 0x13 []

abbrev empty_first : List ℕ
empty_first = room_with 0x25 (empty ++ trns)

-- the sizes, where the picture stands, and the index
abbrev sizes : (index : ℕ) → Room
sizes index = record { width = 8; height = 2; planes = 1; objects = 1; image = 48; image_end = 90; smap = 48; smap_end = 77; clear = index }

-- ---- the lent bytes

-- what kg_load is lent
abbrev given : Lent
given = lent (replicate 451 0xEE) (replicate 17 0xEE) (replicate 3 0xEE)

-- a session's 450 bytes: the counts of steps and entries, the steps, each a draw of object 1 at its last place in the state named, and the one entry
abbrev draws : List ℕ → List ℕ
draws [] = []
draws (st ∷ sts) = 0x01 ∷ 0x01 ∷ st ∷ 0x00 ∷ 0x00 ∷ draws sts

abbrev session_with : (steps entries : ℕ) → (states entry : List ℕ) → List ℕ
session_with n entries states entry =
    (n ∷ entries ∷ []) ++ draws states ++ replicate (320 - length (draws states)) 0x00 ++ entry ++ replicate (128 - length entry) 0x00 ++ (0xEE ∷ [])

-- the surfaces with the two rows of pixels and of the plane
abbrev lent_with : (session upper lower : List ℕ) → (high low : ℕ) → Lent
lent_with session upper lower high low = lent session (upper ++ lower ++ (0xEE ∷ [])) (high ∷ low ∷ 0xEE ∷ [])

-- after the load: the 7 and the 255 of the background are there
abbrev loaded : Lent
loaded =
    lent_with (session_with 0 0 [] [])
    (0x07 ∷ 0xFF ∷ 0x12 ∷ 0x13 ∷ 0x14 ∷ 0x15 ∷ 0x16 ∷ 0x17 ∷ [])
    (0x18 ∷ 0x19 ∷ 0x1A ∷ 0x1B ∷ 0x1C ∷ 0x1D ∷ 0x1E ∷ 0x1F ∷ [])
    0x0F 0xF0

-- state 1 with the index 7: the background shows where the object has 7, its 255s are painted; the mask rows are joined
abbrev first7 : Lent
first7 =
    lent_with (session_with 1 1 (1 ∷ []) (0x01 ∷ 0x01 ∷ []))
    (0x07 ∷ 0xFF ∷ 0xFF ∷ 0xFF ∷ 0x21 ∷ 0x21 ∷ 0x16 ∷ 0x17 ∷ [])
    (0xFF ∷ 0xFF ∷ 0xFF ∷ 0xFF ∷ 0x1C ∷ 0x1D ∷ 0x1E ∷ 0x1F ∷ [])
    0x8F 0xF8

-- state 2: an opaque code, so every pixel is painted, the 7s too; the mask rows replace
abbrev second_pixels : (states : List ℕ) → Lent
second_pixels states =
    lent_with (session_with 2 1 states (0x01 ∷ 0x02 ∷ []))
    (0x07 ∷ 0x07 ∷ 0xFF ∷ 0xFF ∷ 0x21 ∷ 0x21 ∷ 0x07 ∷ 0x07 ∷ [])
    (0xFF ∷ 0xFF ∷ 0xFF ∷ 0xFF ∷ 0x07 ∷ 0x07 ∷ 0x07 ∷ 0x07 ∷ [])
    0x81 0x18

-- state 3 with the index 7: a transparent code, but no pixel of the index, so the 255s are painted and the mask rows replace
abbrev third7 : Lent
third7 = lent_with (session_with 3 1 (1 ∷ 2 ∷ 3 ∷ []) (0x01 ∷ 0x03 ∷ [])) (replicate 8 0xFF) (replicate 8 0x21) 0x42 0x24

-- states 1 and 3 with the index 255: now the background shows at the 255s, the 7s are painted, and both have a transparent pixel
abbrev first255 : Lent
first255 =
    lent_with (session_with 1 1 (1 ∷ []) (0x01 ∷ 0x01 ∷ []))
    (0x07 ∷ 0x07 ∷ 0x12 ∷ 0x13 ∷ 0x21 ∷ 0x21 ∷ 0x07 ∷ 0x07 ∷ [])
    (0x18 ∷ 0x19 ∷ 0x1A ∷ 0x1B ∷ 0x07 ∷ 0x07 ∷ 0x07 ∷ 0x07 ∷ [])
    0x8F 0xF8

abbrev third255 : Lent
third255 =
    lent_with (session_with 2 1 (1 ∷ 3 ∷ []) (0x01 ∷ 0x03 ∷ []))
    (0x07 ∷ 0xFF ∷ 0x12 ∷ 0x13 ∷ 0x14 ∷ 0x15 ∷ 0x16 ∷ 0x17 ∷ [])
    (replicate 8 0x21)
    0x4F 0xF4

-- ---- the record, the load, and the calls

-- the record's 16 bytes, the index among them
abbrev record_with : (index : ℕ) → List ℕ
record_with index =
    0x08 ∷ 0x00 ∷ 0x02 ∷ 0x00 ∷ 0x01 ∷ 0x00 ∷ 0x01 ∷ 0x00 ∷ index ∷ 0x00 ∷ 0x00 ∷ 0x00 ∷ 0x00 ∷ 0x00 ∷ 0x00 ∷ 0x00 ∷ 0xEE ∷ []

abbrev recorded : List ℕ → List ℕ
recorded s = record_after (record_test s (replicate 17 0xEE)) (replicate 17 0xEE)

-- the draw of object 1 where it last was
abbrev draw : (st : ℕ) → Call
draw st = Make (Draw 1 st Last)

-- the call c on the bytes `before`, in the room that has passed its test with this index, is accepted and leaves the bytes `after`
abbrev Gives : List ℕ → (index : ℕ) → (before : Lent) → Call → (after : Lent) → Type 0
Gives s index before c after = (number_by s before c (Ok (sizes index)) ≡ 0) × (after_by s before c (Ok (sizes index)) ≡ after)

-- both loads are accepted, with 7 and with 255, and leave the same bytes; the records differ in byte 8; an empty first TRNS is 2
pub record Read : Type 0 where
  pub accepted : (test_of room7 given ≡ Ok (sizes 7)) × (test_of room255 given ≡ Ok (sizes 255))
  pub loads : (after_load room7 given ≡ loaded) × (after_load room255 given ≡ loaded)
  pub records : (recorded room7 ≡ record_with 0x07) × (recorded room255 ≡ record_with 0xFF)
  pub refused : test_of empty_first given ≡ Err 2

-- with 7: states 1, 2 and 3 one after the other, and the last taken back. With 255: states 1 and 3
pub record Played : Type 0 where
  pub first : Gives room7 7 loaded (draw 1) first7
  pub second : Gives room7 7 first7 (draw 2) (second_pixels (1 ∷ 2 ∷ []))
  pub third : Gives room7 7 (second_pixels (1 ∷ 2 ∷ [])) (draw 3) third7
  pub back : Gives room7 7 third7 TakeBack (second_pixels (1 ∷ 2 ∷ 3 ∷ []))
  pub first-255 : Gives room255 255 loaded (draw 1) first255
  pub third_255 : Gives room255 255 first255 (draw 3) third255

pub index_read : Read
unfolding low_bits bits_of decode five_from kind_of placed raw_of coded_of strip_of rows_of container block_end walk run block_ok well_formed tagged payload
    each_has offset_at offset_right offsets_right table_right body_end body_of strip_at rows_at strip_test leftmost block_test headed_in background_in
    needed_in objects_right trns_in sizes_right room_of sized head_of plane_test smap_and_planes_test pictures_test short after_head room_test upd within
    boxed pixel_at mask_at background mask loaded_pixels loaded_masks emptied over record_bytes
index_read = record { accepted = (refl, refl); loads = (refl, refl); records = (refl, refl); refused = refl }

pub index-played : Played
unfolding low_bits bits_of upd decode five_from kind_of placed raw_of coded_of strip_of rows_of block_end walk run tagged payload offset_at offset_right
    offsets_right table_right body_end body_of strip_at rows_at pixel_at mask_at strip_test leftmost block_test plane_test smap_and_planes_test object_block
    background mask object_id has_id first_of image_block image_count home_x home_y image_width image_height state_block drawable image_test image_fault
    image_strip image_colour image_clear image_bits every opaque covers reaches over_pixel over_mask layered pixel_layout mask_layout fresh_byte new_byte
    rebuilt_bytes some only without spot_of entry_of same_box clash removes adds
    moves applied touches aligned steps.sized inside allowed refusal bare replay replays same_entry same_list right_for scene_of made unmade tried called
    marks_from all_placed put_marks session_of decoded
index-played =
    record {
      first = (refl, refl);
      second = (refl, refl);
      third = (refl, refl);
      back = (refl, refl);
      first-255 = (refl, refl);
      third_255 = (refl, refl);
    }
