-- Whole blocks (document 01, "Writing rule"): "whole blocks, tight, headers included". A block of n strips is its tag, its size, the
-- table of offsets and the bodies, each of which starts where the one before it ends. `mask` says which of the two it is, as in crate
-- table: false for SMAP, true for ZP.
use Rattle.std.specs.Prelude.{Bool, true, false, List, [], ◌∷◌, ◌++◌, ℕ, zero, suc, ◌+◌, ◌*◌, ◌/◌, ◌%◌, length, get_or}
use Rattle.number.specs.Number.{le16_bytes, le32_bytes, be32_bytes}
use Rattle.strip.specs.Picture.{up_to}
use Rattle.table.specs.Table.{table_end}
use Rattle.strip_writer.specs.Pixels.{strip_body}
use Rattle.strip_writer.specs.Rows.{rows_body}

-- ---- the strips of the rows given

-- where byte i of strip k stands, counted by the strip's rows, in rows of `wide` bytes of which each strip has `own`
abbrev pub place_of : (own wide k i : ℕ) → ℕ
place_of own wide k i = i / own * wide + (own * k + i % own)

-- the bytes of strip k, by rows
unfoldable pub strip_bytes : (own wide h : ℕ) → List ℕ → ℕ → List ℕ
strip_bytes own wide h rows k = up_to (λ i. get_or rows (place_of own wide k i) 0) (own * h)

-- the pixels of strip k of a picture of n strips, which is given as pixel (x, y) at y × W + x with W = 8n
abbrev pub pixels_of_strip : (n h : ℕ) → List ℕ → ℕ → List ℕ
pixels_of_strip n h rows k = strip_bytes 8 (8 * n) h rows k

-- the rows of strip k of a plane of n strips, which is given as row y of strip s at y × S + s with S = n
abbrev pub rows_of_strip : (n h : ℕ) → List ℕ → ℕ → List ℕ
rows_of_strip n h rows k = strip_bytes 1 n h rows k

-- the body of strip k; a zero strip of a plane has none
unfoldable pub body_for : Bool → (n h : ℕ) → List ℕ → ℕ → List ℕ
body_for false n h rows k = strip_body (pixels_of_strip n h rows k)
body_for true n h rows k = rows_body (rows_of_strip n h rows k)

-- ---- the parts of a block, for any bodies f

-- an offset in the table, the lowest byte first: a u32 or, of a plane, a u16
unfoldable pub offset_bytes : Bool → ℕ → List ℕ
offset_bytes false v = le32_bytes v
offset_bytes true v = le16_bytes v

-- the offset of a body that would start at `at`: 0 where there is no body
abbrev pub offset_of : List ℕ → ℕ → ℕ
offset_of [] at = 0
offset_of (x ∷ b) at = at

-- the offsets of m strips from strip k on, the first body of which would start at `at`
unfoldable pub table_from : Bool → (ℕ → List ℕ) → (k m at : ℕ) → List ℕ
table_from mask f k zero at = []
table_from mask f k (suc m) at = offset_bytes mask (offset_of (f k) at) ++ table_from mask f (k + 1) m (at + length (f k))

-- the bodies of m strips from strip k on
unfoldable pub bodies_from : (ℕ → List ℕ) → (k m : ℕ) → List ℕ
bodies_from f k zero = []
bodies_from f k (suc m) = f k ++ bodies_from f (k + 1) m

-- the block's size, its header of 8 bytes included
unfoldable pub size_of : Bool → (n : ℕ) → (ℕ → List ℕ) → ℕ
size_of mask n f = table_end mask n + length (bodies_from f 0 n)

unfoldable pub block_of : (tag : ℕ) → Bool → (n : ℕ) → (ℕ → List ℕ) → List ℕ
block_of tag mask n f = be32_bytes tag ++ (be32_bytes (size_of mask n f) ++ (table_from mask f 0 n (table_end mask n) ++ bodies_from f 0 n))

-- ---- the blocks

-- the tags SMAP and ZP0k as big-endian numbers
abbrev pub smap_tag : ℕ
smap_tag = 0x534D4150

abbrev pub plane_tag : ℕ → ℕ
plane_tag k = 0x5A503030 + k

-- the SMAP block of a picture of n strips and h rows, and the block ZP0k of a plane
abbrev pub smap_block : (n h : ℕ) → List ℕ → List ℕ
smap_block n h rows = block_of smap_tag false n (body_for false n h rows)

abbrev pub plane_block : (k n h : ℕ) → List ℕ → List ℕ
plane_block k n h rows = block_of (plane_tag k) true n (body_for true n h rows)
