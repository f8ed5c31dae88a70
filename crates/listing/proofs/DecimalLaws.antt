-- Laws of decimal digits: a number's digits by its last one, and how many there are.
use Rattle.std.proofs.Common.{◌≡◌, sym, ap, ◌∙◌, List, [], ◌∷◌, ◌++◌, ℕ, zero, suc, ◌+◌, ◌*◌, ◌/◌, ◌%◌, ◌≤◌, ◌<◌, arith, lt-ltb, le-ltb, length, length-append}
use mathlib.Core.Logic.{by_cases}
use native.Mathlib.Decide.{dec_lt}
use lib.IntN.{ℤ, pos, negsuc}
use Rattle.number.specs.Number.{ahead, behind}
use Rattle.listing.specs.Decimal.{digits, decimal, signed}
use Rattle.listing.specs.Listing.{field}

digits_low : (k n : ℕ) → n < 10 → digits (suc k) n ≡ (0x30 + n) ∷ []
unfolding digits
digits_low k n h = rw (lt-ltb n 10 h)

digits-high : (k n : ℕ) → 10 ≤ n → digits (suc k) n ≡ digits k (n / 10) ++ ((0x30 + n % 10) ∷ [])
unfolding digits
digits-high k n h = rw (le-ltb n 10 h)

-- any bound that is enough gives the same
digits_bound : (k m n : ℕ) → n < k → n < m → digits k n ≡ digits m n
digits_bound zero m n h g = absurd (omega arith)
digits_bound (suc k) zero n h g = absurd (omega arith)
digits_bound (suc k) (suc m) n h g =
    by_cases (dec_lt n 10)
    (λ low. digits_low k n low ∙ sym (digits_low m n low))
    (λ ge. digits-high k n (omega arith) ∙ ap (λ (l : List ℕ). l ++ ((0x30 + n % 10) ∷ [])) (digits_bound k m (n / 10) (omega arith) (omega arith))
    ∙ sym (digits-high m n (omega arith)))

-- a number below 10 is one digit; another is the digits of its tenth, and its last
pub decimal-low : (n : ℕ) → n < 10 → decimal n ≡ (0x30 + n) ∷ []
unfolding decimal
decimal-low n h = digits_low n n h

pub decimal-high : (n : ℕ) → 10 ≤ n → decimal n ≡ decimal (n / 10) ++ ((0x30 + n % 10) ∷ [])
unfolding decimal
decimal-high n h =
    digits-high n n h
    ∙ ap (λ (l : List ℕ). l ++ ((0x30 + n % 10) ∷ [])) (digits_bound n (suc (n / 10)) (n / 10) (omega arith) (omega arith))

-- a negative number is its distance from 0 behind a minus sign; another is its distance from 0
pub signed-minus : (z : ℤ) (below : ℕ) → below ≡ behind z → 0 < below → field (0x2D ∷ []) below ≡ signed z
unfolding field
signed-minus (pos n) below e h = absurd (omega arith)
signed-minus (negsuc n) below e h = rw e

pub signed_plain : (z : ℤ) (below above : ℕ) → below ≡ behind z → below ≤ 0 → above ≡ ahead z → decimal above ≡ signed z
signed_plain (pos n) below above b h a = rw a
signed_plain (negsuc n) below above b h a = absurd (omega arith)

-- ---- how many digits

abbrev pub Short : (k limit : ℕ) → Type 0
Short k limit = (n : ℕ) → n < limit → length (decimal n) ≤ k

pub short-one : Short 1 10
short-one n h = rw (decimal-low n h) (omega arith)

-- ten times the limit, one digit more
short-more : (k limit : ℕ) → Short (suc k) limit → Short (suc (suc k)) (10 * limit)
short-more k limit short n h =
    by_cases (dec_lt n 10)
    (λ low. rw (decimal-low n low) (omega arith))
    (λ ge. rw (decimal-high n (omega arith), length-append (decimal (n / 10)) ((0x30 + n % 10) ∷ [])) (omega (arith, short (n / 10) (omega arith))))

pub short-three : Short 3 1000
short-three = short-more 1 100 (short-more 0 10 short-one)

pub short-four : Short 4 10000
short-four = short-more 2 1000 short-three

pub short-five : Short 5 100000
short-five = short-more 3 10000 short-four
