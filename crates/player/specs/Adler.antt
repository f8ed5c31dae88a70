-- Adler-32 (RFC 1950, section 8.2): two sums mod 65521, of the bytes and of the sums so far. Assumes nothing.
use Rattle.std.specs.Prelude.{ℕ, zero, suc, ◌+◌, ◌*◌, ◌%◌, List, length, get_or}

-- the sum of the first n bytes, from 1 on
unfoldable pub sum_of_bytes : List ℕ → (n : ℕ) → ℕ
sum_of_bytes l zero = 1
sum_of_bytes l (suc n) = (sum_of_bytes l n + get_or l n 0) % 65521

-- the sum of those sums
unfoldable pub sum_of_sums : List ℕ → (n : ℕ) → ℕ
sum_of_sums l zero = 0
sum_of_sums l (suc n) = (sum_of_sums l n + sum_of_bytes l (suc n)) % 65521

abbrev pub adler32 : List ℕ → ℕ
adler32 l = sum_of_sums l (length l) * 65536 + sum_of_bytes l (length l)
