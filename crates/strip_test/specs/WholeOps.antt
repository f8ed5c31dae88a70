-- The whole operations at the front of a few bits, up to and including the first index: how many bits they take, how many pixels they
-- give, and whether an index ends them. A test takes many operations at once by these numbers, kept in a table for each byte.
-- For the proofs: no public promise rests on what this page says.
use Rattle.std.specs.Prelude.{ℕ, suc, ◌+◌, ◌*◌, ◌/◌, ◌%◌, ◌≤◌, ◌<◌, ◌≡◌, get_or, Bool, true, false, cond, List, [], ◌∷◌, eqb}
use Rattle.bits.specs.Bits.{bit_value, low_bits}

-- bits before the index, pixels, and 1 where an index ends the operations
pub record Row : Type 0 where
  pub bits : ℕ
  pub pixels : ℕ
  pub index : ℕ

abbrev pub nothing : Row
nothing = record { bits = 0; pixels = 0; index = 0 }

abbrev pub index_row : Row
index_row = record { bits = 0; pixels = 1; index = 1 }

-- an operation of n bits that gives one pixel, and what comes after it
abbrev pub after : ℕ → Row → Row
after n r = record { bits = n + r.bits; pixels = suc r.pixels; index = r.index }

-- the 3-bit number d of the second method, low bit first
abbrev pub three_bits : (a b c : Bool) → ℕ
three_bits a b c = bit_value a + 2 * (bit_value b + 2 * (bit_value c + 2 * 0))

-- an operation that is cut by the end of the bits is not whole; a run, d = 4, is left to be read by itself
unfoldable pub whole_ops : Bool → List Bool → Row
whole_ops second [] = nothing
whole_ops second (false ∷ l) = after 1 (whole_ops second l)
whole_ops second (true ∷ []) = nothing
whole_ops second (true ∷ false ∷ l) = index_row
whole_ops false (true ∷ true ∷ []) = nothing
whole_ops false (true ∷ true ∷ a ∷ l) = after 3 (whole_ops false l)
whole_ops true (true ∷ true ∷ []) = nothing
whole_ops true (true ∷ true ∷ a ∷ []) = nothing
whole_ops true (true ∷ true ∷ a ∷ b ∷ []) = nothing
whole_ops true (true ∷ true ∷ a ∷ b ∷ c ∷ l) = cond (eqb (three_bits a b c) 4) nothing (after 5 (whole_ops true l))

-- how far the operations of a row reach, with w bits to an index
abbrev pub reach : (w : ℕ) → Row → ℕ
reach w r = r.bits + r.index * (2 + w)

-- a row as one number, and a table that has the row of each byte
abbrev pub packed : Row → ℕ
packed r = r.bits + 16 * r.pixels + 256 * r.index

-- rows that fit their places
abbrev pub Small : ℕ → Type 0
Small n = (n % 16 ≤ 8) × (n / 16 % 16 ≤ 8) × (n / 256 ≤ 1)

pub record Rows (second : Bool) (t : List ℕ) : Type 0 where
  pub row : (x : ℕ) → x < 256 → get_or t x 0 ≡ packed (whole_ops second (low_bits 8 x))
  pub fits : (x : ℕ) → x < 256 → Small (get_or t x 0)
