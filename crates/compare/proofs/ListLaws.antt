-- Laws of the list of a comparison (change request 1): a strip stands in it exactly if it differs, left to right, with its counts. Assumes nothing.
use Rattle.std.proofs.Common.{ℕ, zero, suc, ◌+◌, ◌*◌, ◌/◌, ◌%◌, ◌^◌, ◌≤◌, ◌<◌, ◌≡◌, refl, sym, ap, ◌∙◌, subst, Bool, true, false, cond, not, ◌||◌, List, [], ◌∷◌, ◌++◌, append-nil, ◌↔◌, ◌⊎◌, inl, inr, eqb, pow_pos, arith, eq-eqb, ne_eqb, eqb-true}
use mathlib.Core.Bool.{false≢true}
use borrow.Author.Tests.{eqb-false}
use Rattle.number.proofs.BoolLaws.{or_right}
use Rattle.compare.specs.Compare.{differing, strip_pixel, declared, Rooms, Difference, pixels_differing, plane_differs, planes_differing, most, difference_at, is_different}
use Rattle.compare.specs.Compare.{next, listed_to}
use Rattle.compare.specs.Listed.{Stands, Behind, Rising, PixelDiffers, PlaneDiffers, StripDiffers}
use Rattle.compare.proofs.CountLaws.{some_differ, differ_some}

-- ---- lists

stands_left : (d : Difference) (xs ys : List Difference) → Stands d xs → Stands d (xs ++ ys)
stands_left d [] ys w = absurd w
stands_left d (x ∷ xs) ys (inl e) = inl e
stands_left d (x ∷ xs) ys (inr w) = inr (stands_left d xs ys w)

stands_right : (d : Difference) (xs ys : List Difference) → Stands d ys → Stands d (xs ++ ys)
stands_right d [] ys w = w
stands_right d (x ∷ xs) ys w = inr (stands_right d xs ys w)

stands_either : (d : Difference) (xs ys : List Difference) → Stands d (xs ++ ys) → Stands d xs ⊎ Stands d ys
stands_either d [] ys w = inr w
stands_either d (x ∷ xs) ys (inl e) = inl (inl e)
stands_either d (x ∷ xs) ys (inr w) = go (stands_either d xs ys w)
  where
    go : Stands d xs ⊎ Stands d ys → Stands d (x ∷ xs) ⊎ Stands d ys
    go (inl v) = inl (inr v)
    go (inr v) = inr v

module _ (m : Rooms) where
  -- a place of the list is a strip's own, and the strip differs
  pub stands_is : (n : ℕ) (d : Difference) → Stands d (listed_to (difference_at m) n) → (d.strip < n) × (d ≡ difference_at m d.strip) × (is_different d ≡ true)
  unfolding listed_to
  stands_is zero d w = absurd w
  stands_is (suc n) d w =
      go (is_different (difference_at m n)) refl (stands_is n d) (stands_either d (listed_to (difference_at m) n) (next (difference_at m n)) w)
    where
      go : (t : Bool) → is_different (difference_at m n) ≡ t
          → (Stands d (listed_to (difference_at m) n) → (d.strip < n) × (d ≡ difference_at m d.strip) × (is_different d ≡ true))
          → Stands d (listed_to (difference_at m) n) ⊎ Stands d (cond t (difference_at m n ∷ []) [])
          → (d.strip < suc n) × (d ≡ difference_at m d.strip) × (is_different d ≡ true)
      go t e before (inl v) = let (lt, is, off) = before v in (omega arith, is, off)
      go true e before (inr (inl is)) = (
        rw is (omega arith),
        is ∙ ap (λ (q : Difference). difference_at m q.strip) (sym is),
        ap is_different is ∙ e,
      )
      go true e before (inr (inr v)) = absurd v
      go false e before (inr v) = absurd v

  pub is_stands : (n k : ℕ) → k < n → is_different (difference_at m k) ≡ true → Stands (difference_at m k) (listed_to (difference_at m) n)
  unfolding listed_to
  is_stands zero k lt off = absurd (omega arith)
  is_stands (suc n) k lt off = go (eqb k n) refl (λ l. is_stands n k l off)
    where
      own : (t : Bool) → is_different (difference_at m k) ≡ t → t ≡ true → Stands (difference_at m k) (cond t (difference_at m k ∷ []) [])
      own true e q = inl refl
      own false e q = absurd (false≢true q)

      go : (t : Bool) → eqb k n ≡ t → (k < n → Stands (difference_at m k) (listed_to (difference_at m) n))
          → Stands (difference_at m k) (listed_to (difference_at m) n ++ next (difference_at m n))
      go true e before =
          let same : k ≡ n = eqb-true k n e in
          stands_right (difference_at m k) (listed_to (difference_at m) n) (next (difference_at m n))
          (subst (λ (j : ℕ). Stands (difference_at m k) (cond (is_different (difference_at m j)) (difference_at m j ∷ []) [])) same
          (own (is_different (difference_at m k)) refl off))
      go false e before =
          let other = eqb-false k n e in
          stands_left (difference_at m k) (listed_to (difference_at m) n) (next (difference_at m n)) (before (omega (arith, other)))

-- ---- left to right

below_all : (n : ℕ) → List Difference → Type 0
below_all n [] = Unit {0}
below_all n (d ∷ ds) = (d.strip < n) × below_all n ds

below_more : (n : ℕ) (ds : List Difference) → below_all n ds → below_all (suc n) ds
unfolding below_all
below_more n [] w = tt
below_more n (d ∷ ds) (lt, w) = (omega arith, below_more n ds w)

below_join : (n : ℕ) (xs ys : List Difference) → below_all n xs → below_all n ys → below_all n (xs ++ ys)
unfolding below_all
below_join n [] ys v w = w
below_join n (x ∷ xs) ys (lt, v) w = (lt, below_join n xs ys v w)

behind-last : (k : ℕ) (ds : List Difference) (d : Difference) → Behind k ds → k < d.strip → Behind k (ds ++ d ∷ [])
behind-last k [] d w lt = (lt, tt)
behind-last k (e ∷ es) d (first, w) lt = (first, behind-last k es d w lt)

rising-last : (ds : List Difference) (d : Difference) → Rising ds → below_all d.strip ds → Rising (ds ++ d ∷ [])
unfolding below_all
rising-last [] d w below = (tt, tt)
rising-last (e ∷ es) d (behind, w) (lt, below) = (behind-last e.strip es d behind lt, rising-last es d w below)

module _ (m : Rooms) where
  rises : (n : ℕ) → Rising (listed_to (difference_at m) n) × below_all n (listed_to (difference_at m) n)
  unfolding listed_to below_all
  rises zero = (tt, tt)
  rises (suc n) = go (is_different (difference_at m n)) (rises n)
    where
      go : (t : Bool) → Rising (listed_to (difference_at m) n) × below_all n (listed_to (difference_at m) n)
          → Rising (listed_to (difference_at m) n ++ cond t (difference_at m n ∷ []) [])
          × below_all (suc n) (listed_to (difference_at m) n ++ cond t (difference_at m n ∷ []) [])
      go true (up, below) = (
        rising-last (listed_to (difference_at m) n) (difference_at m n) up below,
        below_join (suc n) (listed_to (difference_at m) n) (difference_at m n ∷ []) (below_more n (listed_to (difference_at m) n) below) (omega arith, tt),
      )
      go false (up, below) = rw (append-nil (listed_to (difference_at m) n)) (up, below_more n (listed_to (difference_at m) n) below)

  pub rising : (n : ℕ) → Rising (listed_to (difference_at m) n)
  rising n = (rises n).0

-- ---- what differs there

not-zero : (n : ℕ) → not (eqb n 0) ≡ true → n ≡ 0 → ⊥
not-zero n e z = false≢true (sym (ap not (eq-eqb n 0 z)) ∙ e)

zero-not : (n : ℕ) → (n ≡ 0 → ⊥) → not (eqb n 0) ≡ true
zero-not n h = ap not (ne_eqb n 0 h)

module _ (m : Rooms) (k : ℕ) where
  pub pixels_differ : (pixels_differing m k ≡ 0 → ⊥) ↔ PixelDiffers m k
  unfolding pixels_differing
  pixels_differ = (there, back)
    where
      there : (differing (strip_pixel m.a m.ra k) (strip_pixel m.b m.rb k) (8 * m.ra.height) ≡ 0 → ⊥) → PixelDiffers m k
      there h =
          let (j, lt, d) = some_differ (strip_pixel m.a m.ra k) (strip_pixel m.b m.rb k) (8 * m.ra.height) h in
          (8 * k + j % 8, j / 8, omega arith, omega arith, d)

      back : PixelDiffers m k → differing (strip_pixel m.a m.ra k) (strip_pixel m.b m.rb k) (8 * m.ra.height) ≡ 0 → ⊥
      back (x, y, strip, row, d) =
          let column : 8 * k + (8 * y + x % 8) % 8 ≡ x = omega (arith, strip) in
          let line : (8 * y + x % 8) / 8 ≡ y = omega arith in
          differ_some (strip_pixel m.a m.ra k) (strip_pixel m.b m.rb k) (8 * m.ra.height) (8 * y + x % 8) (omega (arith, row))
          (λ e. d (rw (column, line) at e))

  pub plane-differs : (p : ℕ) → (plane_differs m p k ≡ true) ↔ PlaneDiffers m p k
  unfolding plane_differs
  plane-differs p = (there, back)
    where
      there : not (eqb (differing (declared m.a m.ra p k) (declared m.b m.rb p k) m.ra.height) 0) ≡ true → PlaneDiffers m p k
      there e = some_differ (declared m.a m.ra p k) (declared m.b m.rb p k) m.ra.height (not-zero _ e)

      back : PlaneDiffers m p k → not (eqb (differing (declared m.a m.ra p k) (declared m.b m.rb p k) m.ra.height) 0) ≡ true
      back (y, lt, d) = zero-not _ (differ_some (declared m.a m.ra p k) (declared m.b m.rb p k) m.ra.height y lt d)

  -- some plane up to n differs exactly if the number of the planes isn't 0
  some-plane : (n : ℕ) → (planes_differing m k n ≡ 0 → ⊥) → (p : ℕ) × (1 ≤ p) × (p ≤ n) × (plane_differs m p k ≡ true)
  unfolding planes_differing
  some-plane zero h = absurd (h refl)
  some-plane (suc n) h = go (plane_differs m (suc n) k) refl (some-plane n) h
    where
      go : (t : Bool) → plane_differs m (suc n) k ≡ t → ((planes_differing m k n ≡ 0 → ⊥) → (p : ℕ) × (1 ≤ p) × (p ≤ n) × (plane_differs m p k ≡ true))
          → (planes_differing m k n + cond t (2 ^ n) 0 ≡ 0 → ⊥) → (p : ℕ) × (1 ≤ p) × (p ≤ suc n) × (plane_differs m p k ≡ true)
      go true e before w = (suc n, omega arith, omega arith, e)
      go false e before w = let (p, one, le, off) = before (λ z. w (omega (arith, z))) in (p, one, omega arith, off)

  plane-some : (n p : ℕ) → 1 ≤ p → p ≤ n → plane_differs m p k ≡ true → planes_differing m k n ≡ 0 → ⊥
  unfolding planes_differing
  plane-some zero p one le off z = absurd (omega arith)
  plane-some (suc n) p one le off z = go (eqb p (suc n)) refl (λ l. plane-some n p one l off)
    where
      go : (t : Bool) → eqb p (suc n) ≡ t → (p ≤ n → planes_differing m k n ≡ 0 → ⊥) → ⊥
      go true e before =
          let own : plane_differs m (suc n) k ≡ true = ap (λ (q : ℕ). plane_differs m q k) (sym (eqb-true p (suc n) e)) ∙ off in
          let sum : planes_differing m k n + 2 ^ n ≡ 0 = ap (λ (t : Bool). planes_differing m k n + cond t (2 ^ n) 0) (sym own) ∙ z in
          omega (arith, sum, pow_pos n)
      go false e before =
          let other = eqb-false p (suc n) e in
          before (omega (arith, other)) (omega (arith, z))

  pub strip_differs : (is_different (difference_at m k) ≡ true) ↔ StripDiffers m k
  strip_differs = (there, back)
    where
      there : is_different (difference_at m k) ≡ true → StripDiffers m k
      there e = go (not (eqb (pixels_differing m k) 0)) refl e
        where
          go : (t : Bool) → not (eqb (pixels_differing m k) 0) ≡ t → (t || not (eqb (planes_differing m k (most m)) 0)) ≡ true → StripDiffers m k
          go true w h = inl (pixels_differ.0 (not-zero _ w))
          go false w h =
              let (p, one, le, off) = some-plane (most m) (not-zero _ h) in
              inr (p, one, le, (plane-differs p).0 off)

      back : StripDiffers m k → is_different (difference_at m k) ≡ true
      back (inl d) = rw (zero-not (pixels_differing m k) (pixels_differ.1 d))
      back (inr (p, one, le, d)) =
          or_right (not (eqb (pixels_differing m k) 0)) (not (eqb (planes_differing m k (most m)) 0))
          (zero-not (planes_differing m k (most m)) (plane-some (most m) p one le ((plane-differs p).1 d)))
