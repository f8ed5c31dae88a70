-- The table of strip offsets at the head of an SMAP or ZP block (document 01, "Strips of pixels", "Strips of masks"; refusal 5).
-- The block stands in [b, z) of the room's bytes s, its header included, and has n strips. `mask` says which of the two it is:
-- false for SMAP (u32 offsets), true for ZP (u16 offsets, of which 0 means that the strip has no body). Offsets count from the header.
use Rattle.std.specs.Prelude.{ℕ, zero, suc, ◌+◌, ◌-◌, ◌*◌, List, Bool, true, false, ◌&&◌, cond, leb, ltb, eqb}
use Rattle.number.specs.Number.{le16, le32}

-- the bytes of one offset
abbrev pub offset_size : Bool → ℕ
offset_size false = 4
offset_size true = 2

-- where the table ends, counted from the header: no body stands before it
abbrev pub table_end : Bool → ℕ → ℕ
table_end mask n = 8 + offset_size mask * n

-- the offset of strip k
unfoldable pub offset_at : Bool → List ℕ → (b k : ℕ) → ℕ
offset_at false s b k = le32 s (b + 8 + 4 * k)
offset_at true s b k = le16 s (b + 8 + 2 * k)

-- an offset is right: at least 8 + 4S (8 + 2S), below the block's size, above the one before it (0 where none is before)
unfoldable pub offset_right : (low size before offset : ℕ) → Bool
offset_right low size before offset = leb low offset && ltb offset size && ltb before offset

-- a strip of a plane with no body
abbrev pub bodiless : Bool → ℕ → Bool
bodiless mask offset = mask && eqb offset 0

-- the offsets of m strips from strip k on are right, after the offset `before`; those of strips with no body are passed over
unfoldable pub offsets_right : Bool → List ℕ → (b low size k m before : ℕ) → Bool
offsets_right mask s b low size k zero before = true
offsets_right mask s b low size k (suc m) before =
    let offset = offset_at mask s b k in
    let passed = offsets_right mask s b low size (k + 1) m before in
    let next = offsets_right mask s b low size (k + 1) m offset in
    cond (bodiless mask offset) passed (offset_right low size before offset && next)

-- refusal 5 is not given: the table fits its block, and its offsets are right
unfoldable pub table_right : Bool → (n : ℕ) → List ℕ → (b z : ℕ) → Bool
table_right mask n s b z = leb (table_end mask n) (z - b) && offsets_right mask s b (table_end mask n) (z - b) 0 n 0
