-- The bits of a body, read from bit 0 up, and numbers of n bits, low bit first (document 01, "Strips of pixels"); what of them a cursor
-- has not handed out yet.
use Rattle.std.specs.Prelude.{◌≡◌, Bool, true, false, List, [], ◌∷◌, ◌++◌, ℕ, zero, suc, ◌+◌, ◌-◌, ◌*◌, ◌/◌, ◌%◌, ◌^◌, ◌≤◌, ◌<◌, length, drop, get_or, eqb}
use Rattle.bits.specs.declared.Cursor.{Cursor}

-- the lowest n bits of x, from bit 0 up
unfoldable pub low_bits : ℕ → ℕ → List Bool
low_bits zero x = []
low_bits (suc n) x = eqb (x % 2) 1 ∷ low_bits n (x / 2)

-- the bits of a list of bytes
unfoldable pub bits_of : List ℕ → List Bool
bits_of [] = []
bits_of (b ∷ bs) = low_bits 8 b ++ bits_of bs

-- what reading a number finds: its value and the bits after it, or too few bits
pub data Pull : Type 0 where
  short : Pull
  got : ℕ → List Bool → Pull

abbrev pub bit_value : Bool → ℕ
bit_value false = 0
bit_value true = 1

abbrev pub below : Bool → Pull → Pull
below b short = short
below b (got v l) = got (bit_value b + 2 * v) l

-- the n-bit number at the head of a list of bits, low bit first
abbrev pub pull : ℕ → List Bool → Pull
pull zero l = got 0 l
pull (suc n) [] = short
pull (suc n) (b ∷ l) = below b (pull n l)

-- the bits that a cursor has not handed out: those held, then those of the bytes not fetched
unfoldable pub rest : List ℕ → Cursor → List Bool
rest s c = low_bits c.bits c.hold ++ bits_of (drop c.at s)

-- a cursor over the body s, as the reader makes it: nothing above the bits held
pub record Held (s : List ℕ) (c : Cursor) : Type 0 where
  pub few : c.bits ≤ 63
  pub low : c.hold < 2 ^ c.bits
  pub inside : c.at ≤ length s

-- at least 56 bits are held, or all that are left
abbrev pub Full : List ℕ → Cursor → Type 0
Full s c = c.bits < 56 → length s ≤ c.at

-- ---- for the proofs: no public promise rests on what follows

-- four bytes, the first lowest
abbrev pub word_at : List ℕ → ℕ → ℕ
word_at s at = get_or s at 0 + (get_or s (at + 1) 0 + (get_or s (at + 2) 0 + get_or s (at + 3) 0 * 256) * 256) * 256

-- v is the number of the bits of s from bit p on, up to the end of the eighth byte from its byte on
abbrev pub Views : List ℕ → (p v : ℕ) → Type 0
Views s p v = drop p (bits_of s) ≡ low_bits (64 - p % 8) v ++ bits_of (drop (p / 8 + 8) s)
