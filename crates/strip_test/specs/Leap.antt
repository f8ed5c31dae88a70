-- Leaps of the test: from one bit of a body to another, past whole operations, by rows that count an index's bits too.
-- For the proofs: no public promise rests on what this page says.
use Rattle.std.specs.Prelude.{ℕ, ◌+◌, ◌-◌, ◌*◌, ◌/◌, ◌%◌, ◌≤◌, ◌<◌, ◌≡◌, Bool, List, ◌++◌, length, drop, get_or}
use Rattle.bits.specs.Bits.{low_bits, bits_of, rest, Held}
use Rattle.strip.specs.declared.State.{State}
use Rattle.strip.specs.Picture.{strip_of}
use Rattle.strip_test.specs.declared.leap.Spot.{Spot}
use Rattle.strip_test.specs.Outcome.{outcome, test_of}
use Rattle.strip_test.specs.WholeOps.{whole_ops, reach}

-- a row of WholeOps as one number in which the index's w bits are counted: bits + 256 × pixels
abbrev pub widened : (w : ℕ) → ℕ → ℕ
widened w n = n % 16 + n / 256 * (2 + w) + n / 16 % 16 * 256

-- a table that has such a row of each byte
pub record Leaps (second : Bool) (w : ℕ) (t : List ℕ) : Type 0 where
  pub row : (x : ℕ) → x < 256 → get_or t x 0 ≡ reach w (whole_ops second (low_bits 8 x)) + (whole_ops second (low_bits 8 x)).pixels * 256

-- n pixels come between bit p and bit q, and from either on the outcome is the same
abbrev pub Over : Bool → (w : ℕ) → List ℕ → (p q n : ℕ) → Type 0
Over second w s p q n = (k : ℕ) → outcome second w (n + k) 0 (drop p (bits_of s)) ≡ outcome second w k 0 (drop q (bits_of s))

-- from the spot a to the spot b, in a strip of `total` pixels
pub record Leapt (second : Bool) (w total : ℕ) (s : List ℕ) (a b : Spot) : Type 0 where
  pub on : a.i ≤ b.i
  pub room : b.i ≤ total
  pub inside : b.p ≤ 8 * length s
  pub over : Over second w s a.p b.p (b.i - a.i)

-- there are 72 bits more from the spot on, and 32 pixels
pub record Roomy (total : ℕ) (s : List ℕ) (a : Spot) : Type 0 where
  pub bits : a.p + 72 ≤ 8 * length s
  pub pixels : a.i + 32 ≤ total

-- past j rows in a view from bit p on, whose numbers have the given sum: v is the number of the bits ahead, as long as they are in view
pub record Sighted (second : Bool) (w : ℕ) (s : List ℕ) (p j v sum : ℕ) : Type 0 where
  pub bits : sum % 256 ≤ 16 * j
  pub pixels : sum / 256 ≤ 8 * j
  pub ahead : 16 * j ≤ 57 → drop (p + sum % 256) (bits_of s) ≡ low_bits (64 - p % 8 - sum % 256) v ++ bits_of (drop (p / 8 + 8) s)
  pub over : Over second w s p (p + sum % 256) (sum / 256)

-- the careful test of a body goes on at the place st
abbrev pub Begun : Bool → (w total : ℕ) → List ℕ → State → Type 0
Begun second w total s st =
    (st.i ≤ total) × Held s st.cur × (outcome second w total 1 (bits_of (drop 2 s)) ≡ outcome second w (total - st.i) 0 (rest s st.cur))

-- how a body of h rows is tested by leaps: by the method 1 or 2, with so many bits to an index, or by none
abbrev pub Quick : Bool → (h : ℕ) → List ℕ → (w : ℕ) → Type 0
Quick second h s w = (w ≤ 8) × (1 ≤ h) × (2 ≤ length s) × (outcome second w (8 * h) 1 (bits_of (drop 2 s)) ≡ test_of (strip_of h s))
