-- Only decoded content counts (change request 1): rooms of the same content compare alike, and with each other give an empty list; and the order of the
-- two rooms doesn't matter. Assumes nothing.
use Rattle.std.proofs.Common.{ℕ, zero, suc, ◌+◌, ◌*◌, ◌-◌, ◌/◌, ◌%◌, ◌^◌, ◌≤◌, ◌<◌, max, ◌≡◌, refl, sym, ap, ap₂, ◌∙◌, Bool, true, false, cond, not, List, [], eqb, ◌↔◌, add-zero, arith}
use mathlib.Core.Logic.{by_cases}
use native.Mathlib.Decide.{dec_le}
use borrow.Author.Tests.{lt-leb}
use Rattle.room.specs.Test.{strips}
use Rattle.room.specs.declared.Room.{Room}
use Rattle.compare.specs.Compare.{differing, strip_pixel, declared, Rooms, pixels_differing, plane_differs, planes_differing, most, difference_at, is_different}
use Rattle.compare.specs.Compare.{listed_to, differences}
use Rattle.compare.specs.Listed.{PlaneDiffers, SameContent}
use Rattle.compare.proofs.CountLaws.{none_differ, differing-same, differing_sym, bit_none, planes-below, plane-bit}
use Rattle.compare.proofs.ListLaws.{plane-differs}
use Rattle.compare.proofs.PlaceLaws.{listed_same}

-- ---- planes past both N are alike

pub undeclared : (s : List ℕ) (r : Room) (p k y : ℕ) → r.planes < p → declared s r p k y ≡ 0
unfolding declared
undeclared s r p k y lt = rw (lt-leb p r.planes lt)

module _ (m : Rooms) (k : ℕ) where
  past-alike : (p : ℕ) → most m < p → plane_differs m p k ≡ false
  unfolding plane_differs
  past-alike p lt =
      let none =
      none_differ (declared m.a m.ra p k) (declared m.b m.rb p k) m.ra.height
      (λ i l. undeclared m.a m.ra p k i (omega arith) ∙ sym (undeclared m.b m.rb p k i (omega arith))) in
      rw none

  one_more : (n : ℕ) → most m ≤ n → planes_differing m k (suc n) ≡ planes_differing m k n
  unfolding planes_differing
  one_more n le = rw (past-alike (suc n) (omega arith)) (add-zero (planes_differing m k n))

  planes-more : (j : ℕ) → planes_differing m k (j + most m) ≡ planes_differing m k (most m)
  planes-more zero = ap (planes_differing m k) (omega arith)
  planes-more (suc j) = ap (planes_differing m k) (omega arith) ∙ one_more (j + most m) (omega arith) ∙ planes-more j

  pub planes-past : (n : ℕ) → most m ≤ n → planes_differing m k n ≡ planes_differing m k (most m)
  planes-past n le = ap (planes_differing m k) (omega arith) ∙ planes-more (n - most m)

  -- bit p − 1 is set exactly if plane p differs, and is none past both N
  pub plane-set : (p : ℕ) → 1 ≤ p → (planes_differing m k (most m) / 2 ^ (p - 1) % 2 ≡ 1) ↔ ((p ≤ most m) × PlaneDiffers m p k)
  plane-set p one = by_cases (dec_le p (most m)) within past
    where
      same : suc (p - 1) ≡ p
      same = omega arith

      set_is : (t : Bool) → ◌≡◌ {A = ℕ} (cond t 1 0) 1 → t ≡ true
      set_is true e = refl
      set_is false e = absurd (omega (arith, e))

      within : p ≤ most m → (planes_differing m k (most m) / 2 ^ (p - 1) % 2 ≡ 1) ↔ ((p ≤ most m) × PlaneDiffers m p k)
      within le =
          let bit = plane-bit m k (most m) (p - 1) (omega arith) in
          let own : planes_differing m k (most m) / 2 ^ (p - 1) % 2 ≡ cond (plane_differs m p k) 1 0 = rw same at bit in (
            λ e. (le, (plane-differs m k p).0 (set_is (plane_differs m p k) (sym own ∙ e))),
            λ d. own ∙ ap (λ (t : Bool). cond t 1 0) ((plane-differs m k p).1 d.1),
          )

      past : (p ≤ most m → ⊥) → (planes_differing m k (most m) / 2 ^ (p - 1) % 2 ≡ 1) ↔ ((p ≤ most m) × PlaneDiffers m p k)
      past far =
          let all = planes-past (p - 1) (omega (arith, far)) in
          let none : planes_differing m k (most m) / 2 ^ (p - 1) % 2 ≡ 0 =
          rw all at (bit_none (p - 1) (planes_differing m k (p - 1)) (planes-below m k (p - 1))) in (
            λ e. absurd (omega (arith, none, e)),
            λ d. absurd (far d.0),
          )

-- ---- the same list

module _ (m m' : Rooms) where
  planes-same : (k n : ℕ) → ((p : ℕ) → 1 ≤ p → plane_differs m p k ≡ plane_differs m' p k) → planes_differing m k n ≡ planes_differing m' k n
  unfolding planes_differing
  planes-same k zero same = refl
  planes-same k (suc n) same = ap₂ (λ (x : ℕ) (t : Bool). x + cond t (2 ^ n) 0) (planes-same k n same) (same (suc n) (omega arith))

  all-planes-same : (k : ℕ) → ((p : ℕ) → 1 ≤ p → plane_differs m p k ≡ plane_differs m' p k) → planes_differing m k (most m) ≡ planes_differing m' k (most m')
  all-planes-same k same =
      sym (planes-past m k (max (most m) (most m')) (omega arith)) ∙ planes-same k (max (most m) (most m')) same
      ∙ planes-past m' k (max (most m) (most m')) (omega arith)

  at_same : (k : ℕ) → pixels_differing m k ≡ pixels_differing m' k → planes_differing m k (most m) ≡ planes_differing m' k (most m')
      → difference_at m k ≡ difference_at m' k
  at_same k p q = λ i. record { strip = k; pixels = p i; planes = q i }

module _ (m m' : Rooms) (same-a : SameContent m.a m.ra m'.a m'.ra) (same-b : SameContent m.b m.rb m'.b m'.rb)
    (width : m.ra.width ≡ m.rb.width) (height : m.ra.height ≡ m.rb.height) (whole : m.ra.width % 8 ≡ 0) where
  content_pixels : (k : ℕ) → k < strips m.ra → pixels_differing m k ≡ pixels_differing m' k
  unfolding pixels_differing
  content_pixels k lt =
      differing-same (strip_pixel m.a m.ra k) (strip_pixel m.b m.rb k) (strip_pixel m'.a m'.ra k) (strip_pixel m'.b m'.rb k)
      (8 * m.ra.height)
      (λ j l. same-a.pixels (8 * k + j % 8) (j / 8) (omega arith) (omega arith))
      (λ j l. same-b.pixels (8 * k + j % 8) (j / 8) (omega (arith, width)) (omega (arith, height)))
      ∙ ap (λ (h : ℕ). differing (strip_pixel m'.a m'.ra k) (strip_pixel m'.b m'.rb k) (8 * h)) same-a.height

  content_plane : (k p : ℕ) → k < strips m.ra → 1 ≤ p → plane_differs m p k ≡ plane_differs m' p k
  unfolding plane_differs
  content_plane k p lt one =
      ap (λ (n : ℕ). not (eqb n 0))
      (differing-same (declared m.a m.ra p k) (declared m.b m.rb p k) (declared m'.a m'.ra p k) (declared m'.b m'.rb p k)
      m.ra.height
      (λ y l. same-a.planes p k y one lt l)
      (λ y l. same-b.planes p k y one (omega (arith, width, lt)) (omega (arith, height)))
      ∙ ap (λ (h : ℕ). differing (declared m'.a m'.ra p k) (declared m'.b m'.rb p k) h) same-a.height)

  pub same_content : differences m ≡ differences m'
  same_content =
      listed_same (difference_at m) (difference_at m') (strips m.ra)
      (λ k lt. at_same m m' k (content_pixels k lt) (all-planes-same m m' k (λ p one. content_plane k p lt one)))
      ∙ ap (λ (w : ℕ). listed_to (difference_at m') (w / 8)) same-a.width

-- ---- nothing differs

module _ (m : Rooms) where
  none-listed : (n : ℕ) → ((k : ℕ) → k < n → is_different (difference_at m k) ≡ false) → listed_to (difference_at m) n ≡ []
  unfolding listed_to
  none-listed zero none = refl
  none-listed (suc n) none = rw (none-listed n (λ k lt. none k (omega arith)), none n (omega arith))

  no-planes : (k n : ℕ) → ((p : ℕ) → 1 ≤ p → plane_differs m p k ≡ false) → planes_differing m k n ≡ 0
  unfolding planes_differing
  no-planes k zero none = refl
  no-planes k (suc n) none = rw (no-planes k n none, none (suc n) (omega arith))

module _ (m : Rooms) (same : SameContent m.a m.ra m.b m.rb) (whole : m.ra.width % 8 ≡ 0) where
  pixels-alike : (k : ℕ) → k < strips m.ra → pixels_differing m k ≡ 0
  unfolding pixels_differing
  pixels-alike k lt =
      none_differ (strip_pixel m.a m.ra k) (strip_pixel m.b m.rb k) (8 * m.ra.height)
      (λ j l. same.pixels (8 * k + j % 8) (j / 8) (omega arith) (omega arith))

  plane-alike : (k p : ℕ) → k < strips m.ra → 1 ≤ p → plane_differs m p k ≡ false
  unfolding plane_differs
  plane-alike k p lt one =
      let none = none_differ (declared m.a m.ra p k) (declared m.b m.rb p k) m.ra.height (λ y l. same.planes p k y one lt l) in
      rw none

  pub alike-none : differences m ≡ []
  alike-none =
      none-listed m (strips m.ra)
      (λ k lt. rw (pixels-alike k lt, no-planes m k (most m) (λ p one. plane-alike k p lt one)))

-- ---- in either order

-- the rooms the other way round
abbrev pub swapped : Rooms → Rooms
swapped m = record { a = m.b; ra = m.rb; b = m.a; rb = m.ra }

module _ (m : Rooms) (width : m.ra.width ≡ m.rb.width) (height : m.ra.height ≡ m.rb.height) where
  swapped_pixels : (k : ℕ) → pixels_differing m k ≡ pixels_differing (swapped m) k
  unfolding pixels_differing
  swapped_pixels k =
      differing_sym (strip_pixel m.a m.ra k) (strip_pixel m.b m.rb k) (8 * m.ra.height)
      ∙ ap (λ (h : ℕ). differing (strip_pixel m.b m.rb k) (strip_pixel m.a m.ra k) (8 * h)) height

  swapped_plane : (k p : ℕ) → plane_differs m p k ≡ plane_differs (swapped m) p k
  unfolding plane_differs
  swapped_plane k p =
      ap (λ (n : ℕ). not (eqb n 0))
      (differing_sym (declared m.a m.ra p k) (declared m.b m.rb p k) m.ra.height
      ∙ ap (λ (h : ℕ). differing (declared m.b m.rb p k) (declared m.a m.ra p k) h) height)

  pub either_order : differences m ≡ differences (swapped m)
  either_order =
      listed_same (difference_at m) (difference_at (swapped m)) (strips m.ra)
      (λ k lt. at_same m (swapped m) k (swapped_pixels k) (all-planes-same m (swapped m) k (λ p one. swapped_plane k p)))
      ∙ ap (λ (w : ℕ). listed_to (difference_at (swapped m)) (w / 8)) width
