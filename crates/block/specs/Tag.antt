-- A block's tag, and which tags are containers (document 01, "Blocks").
use Rattle.std.specs.Prelude.{ℕ, ◌+◌, List, Bool, ◌&&◌, ◌||◌, get_or, leb, eqb}
use Rattle.number.specs.Number.{be32}

-- a tag as the big-endian number of its four bytes
abbrev pub tag-ROOM : ℕ
tag-ROOM = 0x524F_4F4D

abbrev pub tag-RMIM : ℕ
tag-RMIM = 0x524D_494D

abbrev pub tag-OBIM : ℕ
tag-OBIM = 0x4F42_494D

abbrev pub tag-OBCD : ℕ
tag-OBCD = 0x4F42_4344

abbrev pub tag-RMHD : ℕ
tag-RMHD = 0x524D_4844

abbrev pub tag-RMIH : ℕ
tag-RMIH = 0x524D_4948

abbrev pub tag-IM00 : ℕ
tag-IM00 = 0x494D_3030

abbrev pub tag-SMAP : ℕ
tag-SMAP = 0x534D_4150

abbrev pub tag-CDHD : ℕ
tag-CDHD = 0x4344_4844

abbrev pub tag-IMHD : ℕ
tag-IMHD = 0x494D_4844

abbrev pub tag-OBNA : ℕ
tag-OBNA = 0x4F42_4E41

abbrev pub tag-TRNS : ℕ
tag-TRNS = 0x5452_4E53

-- the block of image state st, and of plane k
abbrev pub tag-IM : ℕ → ℕ
tag-IM st = tag-IM00 + st

abbrev pub tag-ZP : ℕ → ℕ
tag-ZP k = 0x5A50_3030 + k

abbrev pub digit : ℕ → Bool
digit b = leb 0x30 b && leb b 0x39

-- ROOM, RMIM, OBIM, OBCD, and IM with two decimal digits
unfoldable pub container : List ℕ → ℕ → Bool
container s i =
    eqb (be32 s i) tag-ROOM || eqb (be32 s i) tag-RMIM || eqb (be32 s i) tag-OBIM || eqb (be32 s i) tag-OBCD
    || (eqb (get_or s i 0) 0x49 && eqb (get_or s (i + 1) 0) 0x4D && digit (get_or s (i + 2) 0) && digit (get_or s (i + 3) 0))
