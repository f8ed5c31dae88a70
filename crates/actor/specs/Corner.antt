-- The columns (or rows) that a picture takes from a signed corner on, in whole numbers: no sum wraps (document 01, "Actors, points, limbs").
-- Assumes nothing.
use Rattle.std.specs.Prelude.{Bool, ◌&&◌, ◌≡◌, ℕ, ◌-◌, min, ℤ, pos, nat_abs, ◌+ℤ◌, ◌-ℤ◌}
use Rattle.std.specs.Int.Signed.{le_z, lt_z}
use Rattle.number.specs.Number.{ahead, behind}
use Rattle.actor.specs.declared.corner.Span.{Span}

-- one of the n places from the corner z on is the frame's p: z ≤ p < z + n
abbrev pub covers : ℤ → ℕ → ℕ → Bool
covers z n p = le_z z (pos p) && lt_z (pos p) (z +ℤ pos n)

-- which one: p = z + nth z p
abbrev pub nth : ℤ → ℕ → ℕ
nth z p = nat_abs (pos p -ℤ z)

-- ---- for the proofs: no public promise rests on what follows

-- a span is the part in a frame of limit places of a picture of size places whose corner is z
pub record InFrame (z : ℤ) (size limit : ℕ) (s : Span) : Type 0 where
  pub start : s.start ≡ ahead z
  pub skip : s.skip ≡ behind z
  pub count : s.count ≡ min (size - behind z) (limit - ahead z)
