-- What rows of mask bytes make of the bytes below them: they replace them, or their bits are joined (document 01, "Sessions"). Plane k,
-- strip s, row y stands at ((k - 1) * h + y) * width + s.
-- For the proofs: no public promise rests on what this page says.
use Rattle.std.specs.Prelude.{Bool, cond, List, ℕ, ◌+◌, ◌*◌, ◌≤◌, ◌<◌, get_or}
use Rattle.std.specs.Int.Bits.{bit_or}

-- the mask byte v over o: in its place, or the bits of both
abbrev pub mask_over : Bool → ℕ → ℕ → ℕ
mask_over replace v o = cond replace v (bit_or o v)

-- the mask byte at row r of a column one strip wide
abbrev pub rows_over : List ℕ → Bool → ℕ → ℕ → ℕ → ℕ
rows_over rows replace c r o = mask_over replace (get_or rows r 0) o

-- rows y0 to y0 + n of strip s of plane k stand within a buffer of len bytes
pub record Plane (len width h planes k s y0 n : ℕ) : Type 0 where
  pub wide : width ≤ 128
  pub high : h ≤ 200
  pub few : planes ≤ 4
  pub room : width * (planes * h) ≤ len
  pub first : 1 ≤ k
  pub last : k ≤ planes
  pub right : s < width
  pub low : y0 + n ≤ h
