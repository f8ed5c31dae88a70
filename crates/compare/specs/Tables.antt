-- What the code's tables hold: of each strip how many pixels differ, and which planes.
-- For the proofs: no public promise rests on what this page says.
use Rattle.std.specs.Prelude.{ℕ, ◌≤◌, ◌<◌, ◌≡◌, Bool, cond, not, List, eqb, leb, length, get_or, Option, Some, None, Ok}
use Rattle.room.specs.Head.{Sound}
use Rattle.room.specs.Picture.{plane_in, plane_found, found_mask}
use Rattle.room.specs.Test.{pictures_test}
use Rattle.room.specs.declared.Room.{Room}
use Rattle.compare.specs.Compare.{Rooms, Difference, differing, pixels_differing, planes_differing}

-- a room that passed its test
pub record Tested (s : List ℕ) (r : Room) : Type 0 where
  pub sound : Sound s r
  pub passes : pictures_test s r ≡ Ok tt

-- both rooms passed their tests, and have the same size
pub record Comparable (a : List ℕ) (ra : Room) (b : List ℕ) (rb : Room) : Type 0 where
  pub first : Tested a ra
  pub second : Tested b rb
  pub width : ra.width ≡ rb.width
  pub height : ra.height ≡ rb.height

-- where plane p stands; an undeclared one counts as missing
abbrev pub declared_in : List ℕ → Room → (p : ℕ) → Option (ℕ × ℕ)
declared_in s r p = cond (leb p r.planes) (plane_in s r.image r.image_end p) None

-- a block that was found lies in the room
abbrev pub Lies : List ℕ → Option (ℕ × ℕ) → Type 0
Lies s (Some (b, z)) = (b ≤ z) × (z ≤ length s)
Lies s None = Unit {0}

-- a plane that was found lies in the room and passes its test
pub record Sure (n h : ℕ) (s : List ℕ) (f : Option (ℕ × ℕ)) : Type 0 where
  pub lies : Lies s f
  pub passes : plane_found n h s f ≡ Ok tt

-- whether strip k of two planes that were looked for differs
abbrev pub found_differ : (n h : ℕ) → List ℕ → Option (ℕ × ℕ) → List ℕ → Option (ℕ × ℕ) → (k : ℕ) → Bool
found_differ n h a f b g k = not (eqb (differing (found_mask n h a f k) (found_mask n h b g k) h) 0)

-- the counts of the first n strips; the planes up to q of each
abbrev pub Counts : Rooms → (n : ℕ) → List ℕ → Type 0
Counts m n counts = (k : ℕ) → k < n → get_or counts k 0 ≡ pixels_differing m k

abbrev pub Marks : Rooms → (q n : ℕ) → List ℕ → Type 0
Marks m q n marks = (k : ℕ) → k < n → get_or marks k 0 ≡ planes_differing m k q

-- the place of strip k, as the tables have it
abbrev pub table_at : (counts marks : List ℕ) → (k : ℕ) → Difference
table_at counts marks k = record { strip = k; pixels = get_or counts k 0; planes = get_or marks k 0 }
