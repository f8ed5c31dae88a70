-- A load, byte for byte: a room of 16 by 2 pixels whose left strip is raw and whose right strip has a run (change request 5), and the pixels
-- that kg_load leaves of it. The lent pixels have a byte more than the room needs, which stays.
use Rattle.std.proofs.Common.{◌≡◌, refl, List, [], ◌∷◌, ◌++◌, ℕ, replicate}
use Rattle.bits.specs.Bits.{low_bits, bits_of}
use Rattle.grid.specs.Grid.{upd, within, boxed}
use Rattle.strip.specs.Strip.{decode}
use Rattle.strip.specs.Picture.{five_from, kind_of, placed, raw_of, coded_of, strip_of}
use Rattle.block.specs.Tag.{container}
use Rattle.block.specs.Tree.{block_end, walk, run, block_ok, well_formed, tagged, payload, each_has}
use Rattle.table.specs.Table.{offset_at, offset_right, offsets_right, table_right}
use Rattle.table.specs.Body.{body_end, body_of, strip_at, pixel_at}
use Rattle.table.specs.Test.{strip_test, leftmost, block_test}
use Rattle.room.specs.Head.{headed_in, background_in, needed_in, objects_right, trns_in, sizes_right, room_of, sized, head_of}
use Rattle.room.specs.Picture.{smap_and_planes_test}
use Rattle.room.specs.Test.{pictures_test, short, after_head, room_test, number_of}
use Rattle.load.specs.Load.{background, loaded_pixels, load_test, pixels_after}
use Rattle.stored.specs.Layout.{session_size}

-- ROOM; RMHD 16, 2, 0; RMIM; RMIH 0; IM00; SMAP with the offsets 16 and 33; the raw strip; the strip with a run of 13
abbrev pub room : List ℕ
room =
    (0x52 ∷ 0x4F ∷ 0x4F ∷ 0x4D ∷ 0x00 ∷ 0x00 ∷ 0x00 ∷ 0x57 ∷ [])
    ++ (0x52 ∷ 0x4D ∷ 0x48 ∷ 0x44 ∷ 0x00 ∷ 0x00 ∷ 0x00 ∷ 0x0E ∷ 0x10 ∷ 0x00 ∷ 0x02 ∷ 0x00 ∷ 0x00 ∷ 0x00 ∷ [])
    ++ (0x52 ∷ 0x4D ∷ 0x49 ∷ 0x4D ∷ 0x00 ∷ 0x00 ∷ 0x00 ∷ 0x41 ∷ [])
    ++ (0x52 ∷ 0x4D ∷ 0x49 ∷ 0x48 ∷ 0x00 ∷ 0x00 ∷ 0x00 ∷ 0x0A ∷ 0x00 ∷ 0x00 ∷ [])
    ++ (0x49 ∷ 0x4D ∷ 0x30 ∷ 0x30 ∷ 0x00 ∷ 0x00 ∷ 0x00 ∷ 0x2F ∷ [])
    ++ (0x53 ∷ 0x4D ∷ 0x41 ∷ 0x50 ∷ 0x00 ∷ 0x00 ∷ 0x00 ∷ 0x27 ∷ 0x10 ∷ 0x00 ∷ 0x00 ∷ 0x00 ∷ 0x21 ∷ 0x00 ∷ 0x00 ∷ 0x00 ∷ [])
    ++ (0x01 ∷ 0x11 ∷ 0x12 ∷ 0x13 ∷ 0x14 ∷ 0x15 ∷ 0x16 ∷ 0x17 ∷ 0x18 ∷ 0x19 ∷ 0x1A ∷ 0x1B ∷ 0x1C ∷ 0x1D ∷ 0x1E ∷ 0x1F ∷ 0x20 ∷ [])
    ++ (0x44 ∷ 0x10 ∷ 0x63 ∷ 0x36 ∷ 0xE4 ∷ 0x07 ∷ [])

abbrev pub session : List ℕ
session = replicate session_size 0

abbrev pub lent : List ℕ
lent = replicate 33 0xEE

abbrev pub shown : List ℕ
shown =
    (0x11 ∷ 0x12 ∷ 0x13 ∷ 0x14 ∷ 0x15 ∷ 0x16 ∷ 0x17 ∷ 0x18 ∷ 0x10 ∷ 0x0C ∷ 0x0C ∷ 0x0C ∷ 0x0C ∷ 0x0C ∷ 0x0C ∷ 0x0C ∷ [])
    ++ (0x19 ∷ 0x1A ∷ 0x1B ∷ 0x1C ∷ 0x1D ∷ 0x1E ∷ 0x1F ∷ 0x20 ∷ 0x0C ∷ 0x0C ∷ 0x0C ∷ 0x0C ∷ 0x0C ∷ 0x0C ∷ 0x0C ∷ 0x7E ∷ [])

pub loaded-room : (number_of (load_test room session lent []) ≡ 0) × (pixels_after room (load_test room session lent []) lent ≡ shown ++ (0xEE ∷ []))
unfolding low_bits bits_of upd within boxed decode five_from kind_of placed raw_of coded_of strip_of container block_end walk run block_ok well_formed tagged
    payload each_has offset_at offset_right offsets_right table_right body_end body_of strip_at pixel_at strip_test leftmost block_test headed_in
    background_in needed_in objects_right trns_in sizes_right room_of sized head_of smap_and_planes_test pictures_test short after_head room_test background
    loaded_pixels
loaded-room = (refl, refl)
