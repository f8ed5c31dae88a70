-- The laws of a signed corner: split into how far it stands past 0 and how far before it, and the places that a picture takes from it on.
-- Assumes nothing.
use Rattle.std.proofs.Common.{◌≡◌, sym, ap, ◌∙◌, true, false, ℕ, zero, suc, ◌+◌, ◌-◌, ◌<◌, ◌≤◌, arith, lt-ltb, le-ltb, le-leb}
use mathlib.Core.Bool.{false≢true}
use borrow.Author.Tests.{lt-leb}
use native.Mathlib.Decide.{dec_lt}
use mathlib.Core.Logic.{by_cases}
use lib.IntN.{ℤ, pos, negsuc, nat_abs, ◌+ℤ◌}
use Rattle.number.specs.Number.{ahead, behind}
use Rattle.actor.specs.Corner.{covers, nth}

-- ---- the places that a corner and a size cover
pub covers_in : (z : ℤ) (n p : ℕ) → ahead z ≤ p → p + behind z < ahead z + n → covers z n p ≡ true
covers_in (pos a) n p l h = rw (le-leb a p l, lt-ltb p (a + n) (omega arith))
covers_in (negsuc a) n p l h = rw (le-ltb n (suc a) (omega arith), lt-ltb p (n - suc a) (omega arith))

pub covers-lo : (z : ℤ) (n p : ℕ) → p < ahead z → covers z n p ≡ false
covers-lo (pos a) n p l = rw (lt-leb a p l)
covers-lo (negsuc a) n p l = absurd (omega arith)

pub covers-hi : (z : ℤ) (n p : ℕ) → ahead z ≤ p → ahead z + n ≤ p + behind z → covers z n p ≡ false
covers-hi (pos a) n p l h = rw (le-leb a p l, le-ltb p (a + n) (omega arith))
covers-hi (negsuc a) n p l h =
    by_cases (dec_lt n (suc a)) (λ q. rw (lt-ltb n (suc a) q)) (λ q. rw (le-ltb n (suc a) (omega arith), le-ltb p (n - suc a) (omega arith)))

pub nth_is : (z : ℤ) (p : ℕ) → ahead z ≤ p → nth z p ≡ behind z + (p - ahead z)
nth_is (pos zero) p l = omega arith
nth_is (pos (suc a)) p l = rw (le-ltb p (suc a) (omega arith)) (omega arith)
nth_is (negsuc a) p l = omega arith

-- ---- the n-th place from a corner, as a sum in whole numbers
pub stands : (z : ℤ) (c p : ℕ) → pos p ≡ z +ℤ pos c → (ahead z ≤ p) × (p + behind z ≡ ahead z + c)
stands (pos a) c p e = let m : p ≡ a + c = ap nat_abs e in (omega arith, omega arith)
stands (negsuc a) c p e =
    by_cases (dec_lt c (suc a))
    (λ q. let z : ◌≡◌ {A = ℕ} 0 1 = cc (rw (lt-ltb c (suc a) q) at e) in absurd (omega arith))
    (λ q. let m : p ≡ c - suc a = ap nat_abs (rw (le-ltb c (suc a) (omega arith)) at e) in (omega arith, omega arith))

pub stands_covers : (z : ℤ) (n c p : ℕ) → c < n → pos p ≡ z +ℤ pos c → covers z n p ≡ true
stands_covers z n c p h e = let s = stands z c p e in covers_in z n p s.0 (omega arith)

pub stands_nth : (z : ℤ) (c p : ℕ) → pos p ≡ z +ℤ pos c → nth z p ≡ c
stands_nth z c p e = let s = stands z c p e in nth_is z p s.0 ∙ omega arith

-- and the other way: a place that is covered is the n-th one
pub covers_stands : (z : ℤ) (n p : ℕ) → covers z n p ≡ true → (nth z p < n) × (pos p ≡ z +ℤ pos (nth z p))
covers_stands z n p e =
    by_cases (dec_lt p (ahead z)) (λ b. absurd (false≢true (sym (covers-lo z n p b) ∙ e)))
    (λ b. by_cases (dec_lt (p + behind z) (ahead z + n))
    (λ k. let is = nth_is z p (omega arith) in (omega arith, place z (omega arith)))
    (λ k. absurd (false≢true (sym (covers-hi z n p (omega arith) (omega arith)) ∙ e))))
  where
    place : (z : ℤ) → ahead z ≤ p → pos p ≡ z +ℤ pos (nth z p)
    place (pos a) l = rw (nth_is (pos a) p l) (ap pos (omega arith))
    place (negsuc a) l = rw (nth_is (negsuc a) p l, le-ltb (suc a + (p - 0)) (suc a) (omega arith)) (ap pos (omega arith))
