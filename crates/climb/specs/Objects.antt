-- What the point question asks of a room's objects (document 01, "Actors, points, limbs"; CDHD as in source 003). o is an object's number
-- from 1.
use Rattle.std.specs.Prelude.{ℕ}

-- CDHD's place and size in pixels, its flags, and the object that contains it, 0 where there is none
pub record Objects : Type 0 where
  pub count : ℕ
  pub x : ℕ → ℕ
  pub y : ℕ → ℕ
  pub width : ℕ → ℕ
  pub height : ℕ → ℕ
  pub flags : ℕ → ℕ
  pub parent : ℕ → ℕ
