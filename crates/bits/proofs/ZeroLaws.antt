-- Laws of the count of zero bits at the front of a number.
use Rattle.std.proofs.Common.{◌≡◌, refl, sym, ap, ◌∙◌, ℕ, zero, suc, ◌+◌, ◌/◌, ◌%◌, ◌^◌, ◌≤◌, ◌<◌, div-one, mod-eq_of_lt, add-one, one-add, arith, shr-shr, pow_mono}
use native.Mathlib.Nat.{mod-one}
use native.Mathlib.Decide.{dec_lt}
use mathlib.Core.Logic.{by_cases}
use lib.Count.{count_trailing_zeros, under}
use lib.Pow.{mod-pow-add}

-- the bits below the count are 0
zeros-below : (d x : ℕ) → x % 2 ^ count_trailing_zeros d x ≡ 0
unfolding count_trailing_zeros
zeros-below zero x = mod-one x
zeros-below (suc d) x = go (zeros-below d (x / 2)) (x % 2) refl
  where
    go : x / 2 % 2 ^ count_trailing_zeros d (x / 2) ≡ 0 → (r : ℕ) → x % 2 ≡ r → x % 2 ^ under r (count_trailing_zeros d (x / 2)) ≡ 0
    go again zero e = omega (arith, e, again, rw add-one at (mod-pow-add x (count_trailing_zeros d (x / 2)) 1))
    go again (suc r) e = mod-one x

-- the bit at the count is 1
one_above : (d x : ℕ) → count_trailing_zeros d x < d → x / 2 ^ count_trailing_zeros d x % 2 ≡ 1
unfolding count_trailing_zeros
one_above zero x = λ h. absurd (omega arith)
one_above (suc d) x = go (one_above d (x / 2)) (x % 2) refl
  where
    go : (count_trailing_zeros d (x / 2) < d → x / 2 / 2 ^ count_trailing_zeros d (x / 2) % 2 ≡ 1)
        → (r : ℕ) → x % 2 ≡ r → under r (count_trailing_zeros d (x / 2)) < suc d → x / 2 ^ under r (count_trailing_zeros d (x / 2)) % 2 ≡ 1
    go again zero e h = ap (λ (y : ℕ). y % 2) (sym (rw one-add at (shr-shr x 1 (count_trailing_zeros d (x / 2))))) ∙ again (omega arith)
    go again (suc r) e h = ap (λ (y : ℕ). y % 2) (div-one x) ∙ (let le : r ≡ 0 = omega arith in omega arith)

-- ---- over eight bits, with a 1 put behind them

abbrev marked : ℕ → ℕ
marked v = v % 256 + 256

pub zeros-few : (v : ℕ) → count_trailing_zeros 64 (marked v) ≤ 8
zeros-few v = go (count_trailing_zeros 64 (marked v)) (zeros-below 64 (marked v))
  where
    go : (k : ℕ) → marked v % 2 ^ k ≡ 0 → k ≤ 8
    go k e =
        by_cases (dec_lt 8 k)
        (λ h. absurd
        (let top : 2 ^ 9 ≤ 2 ^ k = pow_mono h in
        let same : marked v % 2 ^ k ≡ marked v = mod-eq_of_lt (omega arith) in
        omega arith))
        (λ h. omega (arith, h))

-- up to bit 8 the mark changes nothing
same_low : (v k : ℕ) → k ≤ 8 → marked v % 2 ^ k ≡ 0 → v % 2 ^ k ≡ 0
same_low v zero h e = mod-one v
same_low v (suc zero) h e = omega arith
same_low v (suc (suc zero)) h e = omega arith
same_low v (suc (suc (suc zero))) h e = omega arith
same_low v (suc (suc (suc (suc zero)))) h e = omega arith
same_low v (suc (suc (suc (suc (suc zero))))) h e = omega arith
same_low v (suc (suc (suc (suc (suc (suc zero)))))) h e = omega arith
same_low v (suc (suc (suc (suc (suc (suc (suc zero))))))) h e = omega arith
same_low v (suc (suc (suc (suc (suc (suc (suc (suc zero)))))))) h e = omega arith
same_low v (suc (suc (suc (suc (suc (suc (suc (suc (suc k))))))))) h e = absurd (omega arith)

same_bit : (v k : ℕ) → k < 8 → marked v / 2 ^ k % 2 ≡ 1 → v / 2 ^ k % 2 ≡ 1
same_bit v zero h e = omega arith
same_bit v (suc zero) h e = omega arith
same_bit v (suc (suc zero)) h e = omega arith
same_bit v (suc (suc (suc zero))) h e = omega arith
same_bit v (suc (suc (suc (suc zero)))) h e = omega arith
same_bit v (suc (suc (suc (suc (suc zero))))) h e = omega arith
same_bit v (suc (suc (suc (suc (suc (suc zero)))))) h e = omega arith
same_bit v (suc (suc (suc (suc (suc (suc (suc zero))))))) h e = omega arith
same_bit v (suc (suc (suc (suc (suc (suc (suc (suc k)))))))) h e = absurd (omega arith)

pub zeros_are : (v : ℕ) → v % 2 ^ count_trailing_zeros 64 (marked v) ≡ 0
zeros_are v = same_low v (count_trailing_zeros 64 (marked v)) (zeros-few v) (zeros-below 64 (marked v))

pub zeros-end : (v : ℕ) → count_trailing_zeros 64 (marked v) < 8 → v / 2 ^ count_trailing_zeros 64 (marked v) % 2 ≡ 1
zeros-end v h = same_bit v (count_trailing_zeros 64 (marked v)) h (one_above 64 (marked v) (omega arith))
