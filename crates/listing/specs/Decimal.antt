-- Numbers as text (document 01, the listing example): decimal ASCII digits, no zero in front, a minus sign before a negative number.
use Rattle.std.specs.Prelude.{ℕ, zero, suc, ◌+◌, ◌/◌, ◌%◌, cond, List, [], ◌∷◌, ◌++◌, ltb, ℤ, pos, negsuc}

-- the digits of n, of which there are at most k
unfoldable pub digits : (k n : ℕ) → List ℕ
digits zero n = []
digits (suc k) n = cond (ltb n 10) ((0x30 + n) ∷ []) (digits k (n / 10) ++ ((0x30 + n % 10) ∷ []))

-- a number has no more digits than one more than itself
unfoldable pub decimal : ℕ → List ℕ
decimal n = digits (suc n) n

-- negsuc n is -1 - n
abbrev pub signed : ℤ → List ℕ
signed (pos n) = decimal n
signed (negsuc n) = 0x2D ∷ decimal (suc n)
