-- What a range's `contains` answers, as tests of numbers.
use Rattle.std.proofs.Common.{ℕ, ◌≡◌, ◌&&◌, leb, ltb, arith}
use Rattle.std.specs.Ordering.{is_le, is_lt, nat_cmp}
use Rattle.std.proofs.lemmas.Bool.Decides.{nat_tests}

le_is : (a b : ℕ) → is_le (nat_cmp a b) ≡ leb a b
le_is a b = grind (arith, nat_tests)

lt_is : (a b : ℕ) → is_lt (nat_cmp a b) ≡ ltb a b
lt_is a b = grind (arith, nat_tests)

pub in_range : (from p end : ℕ) → (is_le (nat_cmp from p) && is_lt (nat_cmp p end)) ≡ (leb from p && ltb p end)
in_range from p end = λ i. le_is from p i && lt_is p end i
