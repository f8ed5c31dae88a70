-- Document 01's "Worked rows, proved together as a single table": each row is a computed test, and one theorem says that all hold.
use Rattle.std.proofs.Common.{Bool, true, false, ◌&&◌, List, [], ◌∷◌, ◌++◌, ℕ, replicate, eqb, T}
use Rattle.bits.specs.Bits.{low_bits, bits_of}
use Rattle.strip.specs.Strip.{Strip, refused, values, decode}
use Rattle.strip.specs.Picture.{Picture, refusal, picture, five_from, kind_of, placed, raw_of, coded_of, strip_of}
use Rattle.plane.specs.Mask.{literals, rows_of}
use Rattle.table.specs.Table.{offset_at}
use Rattle.table.specs.Body.{body_end, body_of, rows_at}
use Rattle.strip_writer.specs.Pack.{packed}
use Rattle.strip_writer.specs.Pixels.{op_bits, step_of, ops_bits, strip_body}
use Rattle.strip_writer.specs.Rows.{run_length, literal_length, op_rows, op_bytes, ops_bytes, all_zero, rows_body}

same : List ℕ → List ℕ → Bool
same [] [] = true
same [] (y ∷ ys) = false
same (x ∷ xs) [] = false
same (x ∷ xs) (y ∷ ys) = eqb x y && same xs ys

-- what a row of the table says: a strip body of so many rows reads to these pixels, or is refused with this number; a mask body
-- likewise; a ZP block of one strip reads to these rows; these pixels, or mask rows, are written as this body
data Row : Type 0 where
  shows : ℕ → List ℕ → List ℕ → Row
  refuses : ℕ → List ℕ → ℕ → Row
  masks : ℕ → List ℕ → List ℕ → Row
  refuses_mask : ℕ → List ℕ → ℕ → Row
  plane : ℕ → (length : ℕ) → List ℕ → List ℕ → Row
  writes : List ℕ → List ℕ → Row
  writes-mask : List ℕ → List ℕ → Row

is_picture : Picture → List ℕ → Bool
is_picture (refusal n) px = false
is_picture (picture clear xs) px = same xs px

is_refusal : Picture → ℕ → Bool
is_refusal (refusal m) n = eqb m n
is_refusal (picture clear xs) n = false

is_rows : Strip → List ℕ → Bool
is_rows (refused n) px = false
is_rows (values xs) px = same xs px

is_refused : Strip → ℕ → Bool
is_refused (refused m) n = eqb m n
is_refused (values xs) n = false

holds : Row → Bool
holds (shows h body px) = is_picture (strip_of h body) px
holds (refuses h body n) = is_refusal (strip_of h body) n
holds (masks h body px) = is_rows (rows_of body h (literals 0)) px
holds (refuses_mask h body n) = is_refused (rows_of body h (literals 0)) n
holds (plane h size block px) = is_rows (rows_at 1 h block 0 size 0) px
holds (writes px body) = same (strip_body px) body
holds (writes-mask px body) = same (rows_body px) body

all_hold : List Row → Bool
all_hold [] = true
all_hold (r ∷ rs) = holds r && all_hold rs

-- rows 1 to 9, in document 01's order; row 2 is a whole ZP01 block, whose only offset is 0. Rows 10 to 13 are change request 5's: a run of 13 and
-- not 14 pixels, a run of 0 that fits and one that doesn't, a raw strip
rows : List Row
rows =
    masks 6 (0x83 ∷ 0x00 ∷ 0x03 ∷ 0x01 ∷ 0x02 ∷ 0x03 ∷ []) (0x00 ∷ 0x00 ∷ 0x00 ∷ 0x01 ∷ 0x02 ∷ 0x03 ∷ [])
    ∷ writes-mask (0x00 ∷ 0x00 ∷ 0x00 ∷ 0x01 ∷ 0x02 ∷ 0x03 ∷ []) (0x83 ∷ 0x00 ∷ 0x03 ∷ 0x01 ∷ 0x02 ∷ 0x03 ∷ [])
    ∷ plane 6 10 (0x5A ∷ 0x50 ∷ 0x30 ∷ 0x31 ∷ 0x00 ∷ 0x00 ∷ 0x00 ∷ 0x0A ∷ 0x00 ∷ 0x00 ∷ []) (replicate 6 0x00)
    ∷ shows 2 (0x1C ∷ 0x05 ∷ 0xB6 ∷ 0x97 ∷ 0x00 ∷ 0x00 ∷ []) ((0x05 ∷ 0x05 ∷ 0x04 ∷ 0x03 ∷ 0x04 ∷ 0x09 ∷ []) ++ replicate 10 0x09)
    ∷ writes ((0x05 ∷ 0x05 ∷ 0x04 ∷ 0x03 ∷ 0x04 ∷ 0x09 ∷ []) ++ replicate 10 0x09) (0x1C ∷ 0x05 ∷ 0xB6 ∷ 0x97 ∷ 0x00 ∷ 0x00 ∷ [])
    ∷ shows 2 (0x11 ∷ 0x05 ∷ 0x80 ∷ 0xFC ∷ 0x00 ∷ []) (replicate 4 0x05 ++ replicate 4 0x7E ++ replicate 4 0x05 ++ replicate 4 0x7E)
    ∷ shows 2 (0x1B ∷ 0x05 ∷ 0x80 ∷ 0xFC ∷ 0x00 ∷ []) (replicate 8 0x05 ++ replicate 8 0x7E)
    ∷ shows 2 (0x44 ∷ 0x10 ∷ 0x63 ∷ 0x36 ∷ 0x00 ∷ []) (0x10 ∷ replicate 15 0x0C)
    ∷ shows 1 (0x44 ∷ 0x02 ∷ 0x03 ∷ 0x00 ∷ []) (0x02 ∷ replicate 7 0xFE)
    ∷ refuses 1 (0x1C ∷ 0x05 ∷ []) 7
    ∷ shows 1 (0x1C ∷ 0x05 ∷ 0x00 ∷ []) (replicate 8 0x05)
    ∷ refuses_mask 6 (0x87 ∷ 0x00 ∷ []) 8
    ∷ shows 2 (0x44 ∷ 0x10 ∷ 0x63 ∷ 0x36 ∷ 0xE4 ∷ 0x07 ∷ []) (0x10 ∷ (replicate 14 0x0C ++ (0x7E ∷ [])))
    ∷ shows 33 (0x44 ∷ 0x05 ∷ 0x13 ∷ 0x20 ∷ 0x3F ∷ 0x00 ∷ []) (replicate 257 0x05 ++ replicate 7 0x7E)
    ∷ refuses 32 (0x44 ∷ 0x05 ∷ 0x13 ∷ 0x00 ∷ []) 8
    ∷ shows 1 (0x01 ∷ 0x01 ∷ 0x02 ∷ 0x03 ∷ 0x04 ∷ 0x05 ∷ 0x06 ∷ 0x07 ∷ 0x08 ∷ []) (0x01 ∷ 0x02 ∷ 0x03 ∷ 0x04 ∷ 0x05 ∷ 0x06 ∷ 0x07 ∷ 0x08 ∷ [])
    ∷ []

worked_rows : T (all_hold rows)
unfolding rows all_hold holds is_picture is_refusal is_rows is_refused same strip_of raw_of coded_of placed kind_of five_from decode low_bits bits_of rows_of
    offset_at body_end body_of rows_at packed op_bits step_of ops_bits strip_body run_length literal_length op_rows op_bytes ops_bytes all_zero rows_body
worked_rows = tt
