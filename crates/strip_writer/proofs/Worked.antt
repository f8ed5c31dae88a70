-- Worked rows 1 and 3 of document 01, "written the same", and some bytes at the writing rule's edges.
use Rattle.std.proofs.Common.{◌≡◌, [], ◌∷◌, ◌++◌, replicate, refl}
use Rattle.bits.specs.Bits.{low_bits}
use Rattle.strip_writer.specs.Pack.{packed}
use Rattle.strip_writer.specs.Pixels.{op_bits, step_of, ops_bits, strip_body}
use Rattle.strip_writer.specs.Rows.{run_length, literal_length, op_rows, op_bytes, ops_bytes, all_zero, rows_body}

-- row 1: H 6, mask `83 00 03 01 02 03`: 00 00 00 01 02 03; written the same
pub row-1-written : rows_body (0x00 ∷ 0x00 ∷ 0x00 ∷ 0x01 ∷ 0x02 ∷ 0x03 ∷ []) ≡ 0x83 ∷ 0x00 ∷ 0x03 ∷ 0x01 ∷ 0x02 ∷ 0x03 ∷ []
unfolding run_length literal_length op_rows op_bytes ops_bytes all_zero rows_body
row-1-written = refl

-- row 3: H 2, `1C 05 B6 97 00 00`: 05 05 04 03 04 09, then ten 09; written the same
pub row-3-written : strip_body ((0x05 ∷ 0x05 ∷ 0x04 ∷ 0x03 ∷ 0x04 ∷ 0x09 ∷ []) ++ replicate 10 0x09) ≡ 0x1C ∷ 0x05 ∷ 0xB6 ∷ 0x97 ∷ 0x00 ∷ 0x00 ∷ []
unfolding packed op_bits step_of ops_bits strip_body low_bits
row-3-written = refl

-- a run is capped at 127: 128 equal rows leave a literal of one row, 129 a run of two
capped_128 : rows_body (replicate 128 7) ≡ 0xFF ∷ 7 ∷ 1 ∷ 7 ∷ []
unfolding run_length literal_length op_rows op_bytes ops_bytes all_zero rows_body
capped_128 = refl

capped_129 : rows_body (replicate 129 7) ≡ 0xFF ∷ 7 ∷ 0x82 ∷ 7 ∷ []
unfolding run_length literal_length op_rows op_bytes ops_bytes all_zero rows_body
capped_129 = refl

-- what is left of a capped run starts a literal, which ends before the next two equal rows
literal_after-run : rows_body (replicate 128 7 ++ (8 ∷ 9 ∷ 9 ∷ [])) ≡ 0xFF ∷ 7 ∷ 2 ∷ 7 ∷ 8 ∷ 0x82 ∷ 9 ∷ []
unfolding run_length literal_length op_rows op_bytes ops_bytes all_zero rows_body
literal_after-run = refl

-- v = colour - step is modulo 256: 255 after 0, with step 1, is `110`
wrapped : op_bits 0 1 255 ≡ op_bits 7 1 6
unfolding op_bits low_bits
wrapped = refl
