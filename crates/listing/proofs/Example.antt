-- Document 01's listing example, byte for byte: a room of 16 by 2 pixels with one plane and one object, and its two lines.
use Rattle.std.proofs.Common.{◌≡◌, refl, List, [], ◌∷◌, ◌++◌, ℕ}
use lib.IntN.{negsuc}
use Rattle.bits.specs.Bits.{low_bits, bits_of}
use Rattle.strip.specs.Strip.{decode}
use Rattle.strip.specs.Picture.{five_from, kind_of, placed, raw_of, coded_of, strip_of}
use Rattle.block.specs.Tag.{container}
use Rattle.block.specs.Tree.{block_end, walk, run, block_ok, well_formed, tagged, payload, each_has}
use Rattle.table.specs.Table.{offset_at, offset_right, offsets_right, table_right}
use Rattle.table.specs.Body.{body_end, body_of, strip_at}
use Rattle.table.specs.Test.{strip_test, leftmost, block_test}
use Rattle.room.specs.Head.{headed_in, background_in, needed_in, objects_right, trns_in, sizes_right, room_of, sized, head_of}
use Rattle.room.specs.Picture.{plane_test, smap_and_planes_test}
use Rattle.room.specs.Test.{pictures_test, short, after_head, room_test}
use Rattle.objects.specs.Object.{cdhd_at, object_block}
use Rattle.listing.specs.Decimal.{digits, decimal, signed}
use Rattle.listing.specs.Listing.{field, signed_field, room_line, box_part, walk_part, object_line, object_lines, refused_line, listing_of}

-- ROOM; RMHD 16, 2, 0; RMIM; RMIH 1; IM00; SMAP with the offsets 16 and 20; two strips of colour 05; OBCD; CDHD; OBNA `door@@`
abbrev pub room : List ℕ
room =
    (0x52 ∷ 0x4F ∷ 0x4F ∷ 0x4D ∷ 0x00 ∷ 0x00 ∷ 0x00 ∷ 0x74 ∷ [])
    ++ (0x52 ∷ 0x4D ∷ 0x48 ∷ 0x44 ∷ 0x00 ∷ 0x00 ∷ 0x00 ∷ 0x0E ∷ 0x10 ∷ 0x00 ∷ 0x02 ∷ 0x00 ∷ 0x00 ∷ 0x00 ∷ [])
    ++ (0x52 ∷ 0x4D ∷ 0x49 ∷ 0x4D ∷ 0x00 ∷ 0x00 ∷ 0x00 ∷ 0x32 ∷ [])
    ++ (0x52 ∷ 0x4D ∷ 0x49 ∷ 0x48 ∷ 0x00 ∷ 0x00 ∷ 0x00 ∷ 0x0A ∷ 0x01 ∷ 0x00 ∷ [])
    ++ (0x49 ∷ 0x4D ∷ 0x30 ∷ 0x30 ∷ 0x00 ∷ 0x00 ∷ 0x00 ∷ 0x20 ∷ [])
    ++ (0x53 ∷ 0x4D ∷ 0x41 ∷ 0x50 ∷ 0x00 ∷ 0x00 ∷ 0x00 ∷ 0x18 ∷ 0x10 ∷ 0x00 ∷ 0x00 ∷ 0x00 ∷ 0x14 ∷ 0x00 ∷ 0x00 ∷ 0x00 ∷ [])
    ++ (0x1C ∷ 0x05 ∷ 0x00 ∷ 0x00 ∷ 0x1C ∷ 0x05 ∷ 0x00 ∷ 0x00 ∷ [])
    ++ (0x4F ∷ 0x42 ∷ 0x43 ∷ 0x44 ∷ 0x00 ∷ 0x00 ∷ 0x00 ∷ 0x2C ∷ [])
    ++ (0x43 ∷ 0x44 ∷ 0x48 ∷ 0x44 ∷ 0x00 ∷ 0x00 ∷ 0x00 ∷ 0x15 ∷ 0x07 ∷ 0x00 ∷ 0x00 ∷ 0x00 ∷ 0x01 ∷ 0x01 ∷ 0x00 ∷ 0x00 ∷ 0xE7 ∷ 0xFF ∷ 0x28 ∷ 0x00 ∷ 0x00 ∷ [])
    ++ (0x4F ∷ 0x42 ∷ 0x4E ∷ 0x41 ∷ 0x00 ∷ 0x00 ∷ 0x00 ∷ 0x0F ∷ 0x64 ∷ 0x6F ∷ 0x6F ∷ 0x72 ∷ 0x40 ∷ 0x40 ∷ 0x00 ∷ [])

-- `room 16 2 planes 1 objects 1`
abbrev pub line_1 : List ℕ
line_1 =
    (0x72 ∷ 0x6F ∷ 0x6F ∷ 0x6D ∷ 0x20 ∷ 0x31 ∷ 0x36 ∷ 0x20 ∷ 0x32 ∷ 0x20 ∷ 0x70 ∷ 0x6C ∷ 0x61 ∷ 0x6E ∷ 0x65 ∷ 0x73 ∷ [])
    ++ (0x20 ∷ 0x31 ∷ 0x20 ∷ 0x6F ∷ 0x62 ∷ 0x6A ∷ 0x65 ∷ 0x63 ∷ 0x74 ∷ 0x73 ∷ 0x20 ∷ 0x31 ∷ 0x0A ∷ [])

-- `object 1 id 7 box 0 0 8 8 walk -25 40`
abbrev pub line_2 : List ℕ
line_2 =
    (0x6F ∷ 0x62 ∷ 0x6A ∷ 0x65 ∷ 0x63 ∷ 0x74 ∷ 0x20 ∷ 0x31 ∷ 0x20 ∷ 0x69 ∷ 0x64 ∷ 0x20 ∷ 0x37 ∷ 0x20 ∷ 0x62 ∷ 0x6F ∷ [])
    ++ (0x78 ∷ 0x20 ∷ 0x30 ∷ 0x20 ∷ 0x30 ∷ 0x20 ∷ 0x38 ∷ 0x20 ∷ 0x38 ∷ 0x20 ∷ 0x77 ∷ 0x61 ∷ 0x6C ∷ 0x6B ∷ 0x20 ∷ 0x2D ∷ [])
    ++ (0x32 ∷ 0x35 ∷ 0x20 ∷ 0x34 ∷ 0x30 ∷ 0x0A ∷ [])

pub listed-room : listing_of room ≡ line_1 ++ line_2
unfolding low_bits bits_of decode five_from kind_of placed raw_of coded_of strip_of container block_end walk run block_ok well_formed tagged payload each_has
    offset_at offset_right offsets_right table_right body_end body_of strip_at strip_test leftmost block_test headed_in background_in needed_in objects_right
    trns_in sizes_right room_of sized head_of plane_test smap_and_planes_test pictures_test short after_head room_test cdhd_at object_block digits decimal
    field signed_field room_line box_part walk_part object_line object_lines refused_line listing_of
listed-room = refl

-- an empty input is `refused 1`
pub listed-nothing : listing_of [] ≡ 0x72 ∷ 0x65 ∷ 0x66 ∷ 0x75 ∷ 0x73 ∷ 0x65 ∷ 0x64 ∷ 0x20 ∷ 0x31 ∷ 0x0A ∷ []
unfolding well_formed head_of after_head room_test digits decimal field refused_line listing_of
listed-nothing = refl

-- 0, 105, and -32768
pub numbers_listed : (decimal 0 ≡ 0x30 ∷ []) × (decimal 105 ≡ 0x31 ∷ 0x30 ∷ 0x35 ∷ [])
    × (signed (negsuc 32767) ≡ 0x2D ∷ 0x33 ∷ 0x32 ∷ 0x37 ∷ 0x36 ∷ 0x38 ∷ [])
unfolding digits decimal
numbers_listed = (refl, refl, refl)
