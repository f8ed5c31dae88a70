-- Worked rows 1 and 3 of document 01 as whole blocks, computed, and the order of the refusals.
use Rattle.std.proofs.Common.{◌≡◌, refl, List, [], ◌∷◌, ◌++◌, ℕ, replicate}
use Rattle.number.specs.Number.{le16_bytes, le32_bytes, be32_bytes}
use Rattle.bits.specs.Bits.{low_bits}
use Rattle.strip_writer.specs.Pack.{packed}
use Rattle.strip_writer.specs.Pixels.{op_bits, step_of, ops_bits, strip_body}
use Rattle.strip_writer.specs.Rows.{run_length, literal_length, op_rows, op_bytes, ops_bytes, all_zero, rows_body}
use Rattle.block_writer.specs.Block.{strip_bytes, body_for, offset_bytes, table_from, bodies_from, size_of, block_of}
use Rattle.block_writer.specs.Call.{refused, written, sizes_allowed, block_outcome, smap_outcome, plane_outcome}

-- row 3: one strip of two rows
abbrev pub pixels : List ℕ
pixels = (0x05 ∷ 0x05 ∷ 0x04 ∷ 0x03 ∷ 0x04 ∷ 0x09 ∷ []) ++ replicate 10 0x09

pub smap-block : smap_outcome 8 2 pixels 18 ≡ written (0x53 ∷ 0x4D ∷ 0x41 ∷ 0x50 ∷ 0 ∷ 0 ∷ 0 ∷ 18 ∷ 12 ∷ 0 ∷ 0 ∷ 0 ∷ 0x1C ∷ 0x05 ∷ 0xB6 ∷ 0x97 ∷ 0x00 ∷ 0x00 ∷
    [])
unfolding smap_outcome sizes_allowed block_outcome block_of size_of be32_bytes table_from bodies_from offset_bytes le16_bytes le32_bytes body_for strip_bytes
    packed op_bits step_of ops_bits strip_body low_bits
smap-block = refl

-- a target one byte too short, and a source one byte too short
short_target : smap_outcome 8 2 pixels 17 ≡ refused 4
unfolding smap_outcome sizes_allowed block_outcome block_of size_of be32_bytes table_from bodies_from offset_bytes le16_bytes le32_bytes body_for strip_bytes
    packed op_bits step_of ops_bits strip_body low_bits
short_target = refl

short_source : smap_outcome 8 2 (replicate 15 0x05) 100 ≡ refused 4
unfolding smap_outcome sizes_allowed block_outcome
short_source = refl

-- 3 goes before 4
narrow : smap_outcome 12 2 [] 0 ≡ refused 3
unfolding smap_outcome sizes_allowed
narrow = refl

fifth_plane : plane_outcome 5 16 6 [] 0 ≡ refused 3
unfolding plane_outcome sizes_allowed
fifth_plane = refl

-- row 1 as the second of two strips, the first of which is zero: it has no body, and offset 0
abbrev pub plane : List ℕ
plane = 0 ∷ 0x00 ∷ 0 ∷ 0x00 ∷ 0 ∷ 0x00 ∷ 0 ∷ 0x01 ∷ 0 ∷ 0x02 ∷ 0 ∷ 0x03 ∷ []

pub plane-block : plane_outcome 1 16 6 plane 100
    ≡ written (0x5A ∷ 0x50 ∷ 0x30 ∷ 0x31 ∷ 0 ∷ 0 ∷ 0 ∷ 18 ∷ 0 ∷ 0 ∷ 12 ∷ 0 ∷ 0x83 ∷ 0x00 ∷ 0x03 ∷ 0x01 ∷ 0x02 ∷ 0x03
    ∷ [])
unfolding plane_outcome sizes_allowed block_outcome block_of size_of be32_bytes table_from bodies_from offset_bytes le16_bytes le32_bytes body_for strip_bytes
    run_length literal_length op_rows op_bytes ops_bytes all_zero rows_body
plane-block = refl

-- an all-zero plane is a block of 8 + 2S bytes
zero-plane : plane_outcome 4 16 6 (replicate 12 0) 12 ≡ written (0x5A ∷ 0x50 ∷ 0x30 ∷ 0x34 ∷ 0 ∷ 0 ∷ 0 ∷ 12 ∷ 0 ∷ 0 ∷ 0 ∷ 0 ∷ [])
unfolding plane_outcome sizes_allowed block_outcome block_of size_of be32_bytes table_from bodies_from offset_bytes le16_bytes le32_bytes body_for strip_bytes
    run_length literal_length op_rows op_bytes ops_bytes all_zero rows_body
zero-plane = refl
