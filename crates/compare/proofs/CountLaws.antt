-- Laws of a count of places that differ, and of the planes' bits (change request 1). Assumes nothing.
use Rattle.std.proofs.Common.{ℕ, zero, suc, ◌+◌, ◌*◌, ◌-◌, ◌/◌, ◌%◌, ◌^◌, ◌≤◌, ◌<◌, ◌≡◌, refl, sym, ap, ap₂, ◌∙◌, Bool, true, false, cond, not, eqb, mod-lt, add-zero, add-mul, pow-suc, div-add-mod', add-one, arith, pow-add, pow_pos, eq-eqb, ne_eqb, eqb-true}
use Rattle.std.specs.Int.{from_bool}
use mathlib.Core.Logic.{by_cases}
use native.Mathlib.Decide.{ℕ_discrete}
use lib.Arith.{digits_div}
use borrow.Author.Tests.{eqb-false}
use Rattle.compare.specs.Compare.{differing, strip_pixel, pixels_differing, planes_differing, plane_differs, Rooms}

module _ (f g : ℕ → ℕ) where
  -- a place below n at which they differ
  abbrev pub Apart : ℕ → Type 0
  Apart n = (i : ℕ) × (i < n) × (f i ≡ g i → ⊥)

  pub some_differ : (n : ℕ) → (differing f g n ≡ 0 → ⊥) → Apart n
  unfolding differing
  some_differ zero h = absurd (h refl)
  some_differ (suc n) h = go (eqb (f n) (g n)) refl (some_differ n) h
    where
      go : (t : Bool) → eqb (f n) (g n) ≡ t → ((differing f g n ≡ 0 → ⊥) → Apart n) → (differing f g n + cond t 0 1 ≡ 0 → ⊥) → Apart (suc n)
      go true e before k = let (i, lt, d) = before (λ z. k (omega (arith, z))) in (i, omega arith, d)
      go false e before k = (n, omega arith, eqb-false (f n) (g n) e)

  pub differ_some : (n i : ℕ) → i < n → (f i ≡ g i → ⊥) → differing f g n ≡ 0 → ⊥
  unfolding differing
  differ_some zero i lt d z = absurd (omega arith)
  differ_some (suc n) i lt d z = go (eqb (f n) (g n)) refl (λ l k. differ_some n i l d k) z
    where
      go : (t : Bool) → eqb (f n) (g n) ≡ t → (i < n → differing f g n ≡ 0 → ⊥) → differing f g n + cond t 0 1 ≡ 0 → ⊥
      go true e before k =
          let other : i ≡ n → ⊥ = λ q. d (rw q (eqb-true (f n) (g n) e)) in
          before (omega (arith, other)) (omega (arith, k))
      go false e before k = absurd (omega (arith, k))

  -- where nothing differs
  pub none_differ : (n : ℕ) → ((i : ℕ) → i < n → f i ≡ g i) → differing f g n ≡ 0
  unfolding differing
  none_differ zero same = refl
  none_differ (suc n) same =
      let rest = none_differ n (λ i lt. same i (omega arith)) in
      rw (eq-eqb (f n) (g n) (same n (omega arith)), rest)

-- a count that goes on
pub differing-start : (f g : ℕ → ℕ) → 0 ≡ differing f g 0
unfolding differing
differing-start f g = refl

pub differing-next : (f g : ℕ → ℕ) (i count more : ℕ) → count ≡ differing f g i → more ≡ from_bool (not (eqb (f i) (g i)))
    → count + more ≡ differing f g (i + 1)
unfolding differing
differing-next f g i count more e q = rw (e, q, add-one i) (ap (λ (x : ℕ). differing f g i + x) (apart (eqb (f i) (g i))))
  where
    apart : (t : Bool) → from_bool (not t) ≡ cond t 0 1
    apart true = refl
    apart false = refl

-- the count is the same of equal rows, and in either order
pub differing-same : (f g f' g' : ℕ → ℕ) (n : ℕ) → ((i : ℕ) → i < n → f i ≡ f' i) → ((i : ℕ) → i < n → g i ≡ g' i) → differing f g n ≡ differing f' g' n
unfolding differing
differing-same f g f' g' zero p q = refl
differing-same f g f' g' (suc n) p q =
    let rest = differing-same f g f' g' n (λ i lt. p i (omega arith)) (λ i lt. q i (omega arith)) in
    rw (p n (omega arith), q n (omega arith), rest)

eqb_sym : (a b : ℕ) → eqb a b ≡ eqb b a
eqb_sym a b = go (eqb a b) refl
  where
    go : (t : Bool) → eqb a b ≡ t → t ≡ eqb b a
    go true e = sym (eq-eqb b a (sym (eqb-true a b e)))
    go false e = sym (ne_eqb b a (λ q. eqb-false a b e (sym q)))

pub differing-few : (f g : ℕ → ℕ) (n : ℕ) → differing f g n ≤ n
unfolding differing
differing-few f g zero = omega arith
differing-few f g (suc n) = go (eqb (f n) (g n)) (differing-few f g n)
  where
    go : (t : Bool) → differing f g n ≤ n → differing f g n + cond t 0 1 ≤ suc n
    go true le = omega arith
    go false le = omega arith

pub pixels-few : (m : Rooms) (k : ℕ) → pixels_differing m k ≤ 8 * m.ra.height
unfolding pixels_differing
pixels-few m k = differing-few (strip_pixel m.a m.ra k) (strip_pixel m.b m.rb k) (8 * m.ra.height)

pub differing_sym : (f g : ℕ → ℕ) (n : ℕ) → differing f g n ≡ differing g f n
unfolding differing
differing_sym f g zero = refl
differing_sym f g (suc n) = ap₂ (λ (x : ℕ) (t : Bool). x + cond t 0 1) (differing_sym f g n) (eqb_sym (f n) (g n))

-- ---- the planes' bits

-- 2 ^ n more changes no bit below bit n
bit_kept : (n p x : ℕ) → p < n → (x + 2 ^ n) / 2 ^ p % 2 ≡ x / 2 ^ p % 2
bit_kept n p x lt =
    let d = n - p - 1 in
    let split : suc d + p ≡ n = omega arith in
    let power : 2 ^ n ≡ 2 ^ d * 2 * 2 ^ p = ap (λ (j : ℕ). 2 ^ j) (sym split) ∙ pow-add 2 (suc d) p ∙ ap (λ (j : ℕ). j * 2 ^ p) (pow-suc 2 d) in
    let whole : x / 2 ^ p * 2 ^ p + x % 2 ^ p ≡ x = omega (arith, div-add-mod' x (2 ^ p)) in
    let joined : (x / 2 ^ p + 2 ^ d * 2) * 2 ^ p ≡ x / 2 ^ p * 2 ^ p + 2 ^ d * 2 * 2 ^ p = add-mul (x / 2 ^ p) (2 ^ d * 2) (2 ^ p) in
    let sum : x + 2 ^ n ≡ (x / 2 ^ p + 2 ^ d * 2) * 2 ^ p + x % 2 ^ p = omega (arith, power, whole, joined) in
    let quotient : (x + 2 ^ n) / 2 ^ p ≡ x / 2 ^ p + 2 ^ d * 2 =
    ap (λ (y : ℕ). y / 2 ^ p) sum ∙ digits_div (x / 2 ^ p + 2 ^ d * 2) (mod-lt x (pow_pos p)) in
    rw quotient (omega arith)

-- bit n of a number below 2 ^ n with 2 ^ n more
bit_new : (n x : ℕ) → x < 2 ^ n → (x + 2 ^ n) / 2 ^ n % 2 ≡ 1
bit_new n x lt =
    let sum : x + 2 ^ n ≡ 1 * 2 ^ n + x = omega arith in
    ap (λ (y : ℕ). y / 2 ^ n % 2) sum ∙ ap (λ (y : ℕ). y % 2) (digits_div 1 lt)

-- and of the number itself
pub bit_none : (n x : ℕ) → x < 2 ^ n → x / 2 ^ n % 2 ≡ 0
bit_none n x lt =
    let sum : x ≡ 0 * 2 ^ n + x = omega arith in
    ap (λ (y : ℕ). y / 2 ^ n % 2) sum ∙ ap (λ (y : ℕ). y % 2) (digits_div 0 lt)

-- a number whose bit p is set where f holds of p, made of its lowest n bits: each bit, and no others
module _ (f : ℕ → Bool) (made : ℕ → ℕ) (start : made 0 ≡ 0) (next : (n : ℕ) → made (suc n) ≡ made n + cond (f n) (2 ^ n) 0) where
  pub bits_below : (n : ℕ) → made n < 2 ^ n
  bits_below zero = omega (arith, start)
  bits_below (suc n) = rw (next n) (go (f n) (bits_below n))
    where
      go : (t : Bool) → made n < 2 ^ n → made n + cond t (2 ^ n) 0 < 2 ^ suc n
      go true lt = omega arith
      go false lt = omega arith

  pub bit_is : (n p : ℕ) → p < n → made n / 2 ^ p % 2 ≡ cond (f p) 1 0
  bit_is zero p lt = absurd (omega arith)
  bit_is (suc n) p lt =
      rw (next n) (by_cases (ℕ_discrete p n) newest (λ e. older (f n) (omega (arith, e)) (bit_is n p (omega (arith, e)))))
    where
      here : (t : Bool) → (made n + cond t (2 ^ n) 0) / 2 ^ n % 2 ≡ cond t 1 0
      here true = bit_new n (made n) (bits_below n)
      here false = rw (add-zero (made n)) (bit_none n (made n) (bits_below n))

      newest : p ≡ n → (made n + cond (f n) (2 ^ n) 0) / 2 ^ p % 2 ≡ cond (f p) 1 0
      newest e = rw e (here (f n))

      older : (t : Bool) → p < n → made n / 2 ^ p % 2 ≡ cond (f p) 1 0 → (made n + cond t (2 ^ n) 0) / 2 ^ p % 2 ≡ cond (f p) 1 0
      older true below before = bit_kept n p (made n) below ∙ before
      older false below before = rw (add-zero (made n)) before

module _ (m : Rooms) (k : ℕ) where
  pub planes-below : (n : ℕ) → planes_differing m k n < 2 ^ n
  unfolding planes_differing
  planes-below = bits_below (λ p. plane_differs m (suc p) k) (planes_differing m k) refl (λ n. refl)

  -- bit p says whether plane p + 1 differs
  pub plane-bit : (n p : ℕ) → p < n → planes_differing m k n / 2 ^ p % 2 ≡ cond (plane_differs m (suc p) k) 1 0
  unfolding planes_differing
  plane-bit = bit_is (λ p. plane_differs m (suc p) k) (planes_differing m k) refl (λ n. refl)
