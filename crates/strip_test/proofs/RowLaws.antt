-- A table of rows is right: each of its 256 rows is computed.
use Rattle.std.proofs.Common.{◌≡◌, sym, subst, Bool, true, ◌&&◌, List, ℕ, zero, suc, ◌/◌, ◌%◌, ◌<◌, arith, eqb-true, leb-true, eqb, leb, get_or}
use mathlib.Core.Logic.{by_cases}
use native.Mathlib.Decide.{ℕ_discrete}
use Rattle.bits.specs.Bits.{low_bits}
use Rattle.number.proofs.BoolLaws.{and_left, and_right}
use Rattle.strip_test.specs.WholeOps.{whole_ops, packed, Small, Rows}

-- the first n rows of the table are right
unfoldable pub right_rows : Bool → List ℕ → ℕ → Bool
right_rows second t zero = true
right_rows second t (suc n) = eqb (get_or t n 0) (packed (whole_ops second (low_bits 8 n))) && right_rows second t n

abbrev fitting : ℕ → Bool
fitting n = leb (n % 16) 8 && (leb (n / 16 % 16) 8 && leb (n / 256) 1)

unfoldable pub fit_rows : List ℕ → ℕ → Bool
fit_rows t zero = true
fit_rows t (suc n) = fitting (get_or t n 0) && fit_rows t n

right-row : (second : Bool) (t : List ℕ) (n : ℕ) → right_rows second t n ≡ true → (x : ℕ) → x < n → get_or t x 0 ≡ packed (whole_ops second (low_bits 8 x))
unfolding right_rows
right-row second t zero e x h = absurd (omega arith)
right-row second t (suc n) e x h =
    by_cases (ℕ_discrete x n)
    (λ z. subst (λ (k : ℕ). get_or t k 0 ≡ packed (whole_ops second (low_bits 8 k))) (sym z)
    (eqb-true (get_or t n 0) (packed (whole_ops second (low_bits 8 n))) (and_left _ (right_rows second t n) e)))
    (λ z. right-row second t n (and_right (eqb (get_or t n 0) (packed (whole_ops second (low_bits 8 n)))) _ e) x (omega (arith, z)))

fits_of : (n : ℕ) → fitting n ≡ true → Small n
fits_of n e =
    let b = and_right (leb (n % 16) 8) _ e in
    (leb-true _ _ (and_left (leb (n % 16) 8) _ e), leb-true _ _ (and_left (leb (n / 16 % 16) 8) _ b), leb-true _ _ (and_right (leb (n / 16 % 16) 8) _ b))

fit_row : (t : List ℕ) (n : ℕ) → fit_rows t n ≡ true → (x : ℕ) → x < n → Small (get_or t x 0)
unfolding fit_rows
fit_row t zero e x h = absurd (omega arith)
fit_row t (suc n) e x h =
    by_cases (ℕ_discrete x n)
    (λ z. subst (λ (k : ℕ). Small (get_or t k 0)) (sym z) (fits_of (get_or t n 0) (and_left (fitting (get_or t n 0)) (fit_rows t n) e)))
    (λ z. fit_row t n (and_right (fitting (get_or t n 0)) (fit_rows t n) e) x (omega (arith, z)))

pub rows_right : (second : Bool) (t : List ℕ) → right_rows second t 256 ≡ true → fit_rows t 256 ≡ true → Rows second t
rows_right second t e f = record { row = right-row second t 256 e; fits = fit_row t 256 f }
