-- One strip of masks (document 01, "Strips of masks"): what its bytes mean, its rows or the number of its refusal, 7 or 8.
use Rattle.std.specs.Prelude.{◌≡◌, cond, List, [], ◌∷◌, ℕ, zero, suc, ◌+◌, ◌-◌, ◌≤◌, length, get_or, take, drop, replicate, ltb, Result, Ok, Err}
use Rattle.strip.specs.Strip.{Strip, refused, values, onto, prepend}
use Rattle.plane.specs.declared.Rows.{Rows}
use Rattle.plane.specs.declared.Rows.TheVariants.{Literals, Copies}

-- what is pending: so many literal rows (0: an operation comes next), or so many copies of the next byte
pub data Pending : Type 0 where
  literals : ℕ → Pending
  copies : ℕ → Pending

-- how many rows an operation byte asks for: below 80 that many literal rows, else (byte − 80) copies of one byte
abbrev pub rows_in : (op : ℕ) → ℕ
rows_in op = cond (ltb op 0x80) op (op - 0x80)

abbrev pub pending_of : (op : ℕ) → Pending
pending_of op = cond (ltb op 0x80) (literals op) (copies (op - 0x80))

-- the rows that are still to do, from the bytes that are left: passing the end is tested (8) before missing bytes (7)
unfoldable pub rows_of : (bytes : List ℕ) (todo : ℕ) (pending : Pending) → Strip
rows_of [] zero pending = values []
rows_of [] (suc todo) pending = refused 7
rows_of (b ∷ bytes) zero pending = values []
rows_of (b ∷ bytes) (suc todo) (copies n) = prepend (replicate n b) (rows_of bytes (suc todo - n) (literals zero))
rows_of (b ∷ bytes) (suc todo) (literals (suc n)) = onto b (rows_of bytes todo (literals n))
rows_of (op ∷ bytes) (suc todo) (literals zero) = cond (ltb (suc todo) (rows_in op)) (refused 8) (rows_of bytes (suc todo) (pending_of op))

-- ---- for the proofs: no public promise rests on what follows

-- the answer to the operation at a place, with k rows to go: what the bytes from there on give
abbrev pub RowsAt : List ℕ → (at k : ℕ) → Result Rows ℕ → Type 0
RowsAt s at k (Ok (Literals n)) =
    (n ≤ k) × (at + 1 + n ≤ length s)
    × (rows_of (drop at s) k (literals 0) ≡ prepend (take n (drop (at + 1) s)) (rows_of (drop (at + 1 + n) s) (k - n) (literals 0)))
RowsAt s at k (Ok (Copies n)) =
    (n ≤ k) × (at + 2 ≤ length s)
    × (rows_of (drop at s) k (literals 0) ≡ prepend (replicate n (get_or s (at + 1) 0)) (rows_of (drop (at + 2) s) (k - n) (literals 0)))
RowsAt s at k (Err m) = rows_of (drop at s) k (literals 0) ≡ refused m
