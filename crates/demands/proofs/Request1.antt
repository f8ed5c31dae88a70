-- Change request 1 holds: the list of two rooms says exactly what differs, and only decoded content counts.
use Rattle.std.proofs.Common.{ℕ, zero, suc, ◌+◌, ◌-◌, ◌*◌, ◌/◌, ◌%◌, ◌^◌, ◌≤◌, ◌<◌, ◌≡◌, refl, sym, ap, ap₂, ◌∙◌, List, [], ◌∷◌, ◌++◌, ◌↔◌, ◌⊎◌, inl, inr, le_of_suc-le-suc, arith, le-leb, eqb, length, get_or, drop, Ok}
use mathlib.Core.Logic.{by_cases}
use native.Mathlib.Decide.{ℕ_discrete}
use Rattle.number.specs.Number.{le16_bytes}
use Rattle.number.specs.Buffer.{over}
use Rattle.room.specs.Head.{Sound}
use Rattle.room.specs.Test.{strips}
use Rattle.room.specs.declared.Room.{Room}
use Rattle.play.specs.Bytes.{Lent, test_of, after_load}
use Rattle.compare.specs.Compare.{declared, Rooms, rooms, most, Difference, difference_at, is_different, differences, place_bytes, list_bytes, Outcome, no, ok}
use Rattle.compare.specs.Compare.{outcome_of, compared_of, answer_of, list_after, number, value}
use Rattle.compare.specs.Listed.{Stands, PlaneDiffers, StripDiffers, SameContent}
use Rattle.compare.proofs.CountLaws.{pixels-few}
use Rattle.compare.proofs.PlaceLaws.{place_byte}
use Rattle.compare.proofs.ListLaws as list
use Rattle.compare.proofs.ContentLaws as content
use Rattle.compare.proofs.OutcomeLaws as outcome
use Rattle.demands.specs.Request1.{BothRight, Says, PlaceReads, Request1}
use Rattle.demands.proofs.LoadReads as load
use Rattle.demands.proofs.RefusalCompared.{refused-number}

-- no refusal has the number 0
refused-some : (a b : List ℕ) (size n : ℕ) → outcome.Verdict a b size (no n) → n ≡ 0 → ⊥
refused-some a b size n (inl first) none = omega (arith, (refused-number a n first).0, none)
refused-some a b size n (inr (inl (ra, first, second))) none = omega (arith, (refused-number b n second).0, none)
refused-some a b size n (inr (inr (inl (is, both)))) none = omega (arith, is, none)
refused-some a b size n (inr (inr (inr (is, both)))) none = omega (arith, is, none)

-- ---- what the list says

module _ (m : Rooms) where
  exactly : (k : ℕ) → k < strips m.ra → ((d : Difference) × Stands d (differences m) × (d.strip ≡ k)) ↔ StripDiffers m k
  exactly k lt = (
    λ there.
        let is = list.stands_is m (strips m.ra) there.0 there.1 in
        (list.strip_differs m k).0 (sym (ap is_different (is.1 ∙ ap (difference_at m) there.2)) ∙ is.2),
    λ differs. (difference_at m k, list.is_stands m (strips m.ra) k lt ((list.strip_differs m k).1 differs), refl),
  )

  planes_are : (d : Difference) → Stands d (differences m) → (p : ℕ) → 1 ≤ p
      → (d.planes / 2 ^ (p - 1) % 2 ≡ 1) ↔ ((p ≤ most m) × PlaneDiffers m p d.strip)
  planes_are d stands p one =
      let is = ap (λ (e : Difference). e.planes) (list.stands_is m (strips m.ra) d stands).1 in
      rw is (content.plane-set m d.strip p one)

  says : Says m (differences m)
  says =
      record {
        exactly = exactly;
        rising = list.rising m (strips m.ra);
        strips-only = λ d stands. (list.stands_is m (strips m.ra) d stands).0;
        counts = λ d stands. ap (λ (e : Difference). e.pixels) (list.stands_is m (strips m.ra) d stands).1;
        planes = planes_are;
      }

-- ---- its bytes

stands_at : (ds : List Difference) (i : ℕ) (none : Difference) → i < length ds → Stands (get_or ds i none) ds
stands_at [] i none lt = absurd (omega arith)
stands_at (d ∷ ds) zero none lt = inl refl
stands_at (d ∷ ds) (suc i) none lt = inr (stands_at ds i none (le_of_suc-le-suc lt))

module _ (ds : List Difference) (rest : List ℕ) (i : ℕ) (none : Difference) (lt : i < length ds) where
  abbrev here : Difference
  here = get_or ds i none

  byte : (j : ℕ) → j < 8 → get_or (list_bytes ds ++ rest) (8 * i + j) 0 ≡ get_or (place_bytes here) j 0
  byte j lj = place_byte ds rest i j none lt lj

  reads : here.strip < 65536 → here.pixels < 65536 → PlaceReads (list_bytes ds ++ rest) i here
  unfolding le16_bytes
  reads few small =
      let first : 8 * i + 0 ≡ 8 * i = omega arith in
      let low : get_or (list_bytes ds ++ rest) (8 * i) 0 ≡ here.strip % 256 = rw first at (byte 0 (omega arith)) in
      let next : 8 * i + 2 + 1 ≡ 8 * i + 3 = omega arith in
      record {
        strip = ap₂ (λ (x y : ℕ). x + y * 256) low (byte 1 (omega arith)) ∙ omega (arith, few);
        pixels = rw next (ap₂ (λ (x y : ℕ). x + y * 256) (byte 2 (omega arith)) (byte 3 (omega arith)) ∙ omega (arith, small));
        planes = byte 4 (omega arith);
        zeros = (byte 5 (omega arith), byte 6 (omega arith), byte 7 (omega arith));
      }

module _ (m : Rooms) (sound : Sound m.a m.ra) (l : List ℕ) (i : ℕ) (none : Difference) (lt : i < length (differences m)) where
  place-reads : PlaceReads (over (list_bytes (differences m)) l) i (get_or (differences m) i none)
  unfolding over
  place-reads =
      let d = get_or (differences m) i none in
      let is = list.stands_is m (strips m.ra) d (stands_at (differences m) i none lt) in
      let pixels = ap (λ (e : Difference). e.pixels) is.1 in
      reads (differences m) (drop (length (list_bytes (differences m))) l) i none lt
      (omega (arith, is.0, sound.widest))
      (omega (arith, pixels, pixels-few m d.strip, sound.highest))

-- ---- an accepted call

module _ (a b l : List ℕ) where
  abbrev Accepted : Outcome → Type 0
  Accepted o =
      (ra : Room) × (rb : Room) × BothRight a b ra rb × (ra.width ≡ rb.width) × (ra.height ≡ rb.height)
      × ((ds : List Difference) × Says (rooms a ra b rb) ds × (value (answer_of o) ≡ length ds) × (list_after o l ≡ over (list_bytes ds) l)
      × ((i : ℕ) (none : Difference) → i < length ds → PlaceReads (list_after o l) i (get_or ds i none)))

  accepted : (o : Outcome) → outcome.Verdict a b (length l) o → number (answer_of o) ≡ 0 → Accepted o
  accepted (no n) why none = absurd (refused-some a b (length l) n why none)
  accepted (ok ds) (ra, rb, first, second, (enough, is)) none =
      let m = rooms a ra b rb in (
        ra,
        rb,
        (first, second),
        enough.0,
        enough.1,
        (
          differences m,
          says m,
          ap length is,
          ap (λ (es : List Difference). over (list_bytes es) l) is,
          λ i other lt. rw is (place-reads m (outcome.tested a ra first).sound l i other lt),
        ),
      )

-- ---- only content counts

module _ (a b : List ℕ) (ra rb : Room) (right : BothRight a b ra rb) where
  abbrev pair : Rooms
  pair = rooms a ra b rb

  is_of : (size : ℕ) → compared_of a b size ≡ outcome_of pair size
  is_of size = outcome.both_right a b size ra right.0 rb right.1

  whole : ra.width % 8 ≡ 0
  whole = (outcome.tested a ra right.0).sound.whole

  -- rooms that decode alike: nothing is listed
  none-listed : SameContent a ra b rb → (l : List ℕ)
      → let o = compared_of a b (length l) in (number (answer_of o) ≡ 0) × (value (answer_of o) ≡ 0) × (list_after o l ≡ l)
  unfolding over list_bytes
  none-listed same l =
      let none = content.alike-none pair same whole in
      let is = is_of (length l) ∙ outcome.listed pair (length l) same.width same.height (rw none (omega arith)) ∙ ap ok none in
      rw is (refl, refl, refl)

-- the two rooms have one size, or not
sizes : (ra rb : Room) → ((ra.width ≡ rb.width) × (ra.height ≡ rb.height)) ⊎ ((ra.width ≡ rb.width → ⊥) ⊎ (ra.height ≡ rb.height → ⊥))
sizes ra rb =
    by_cases (ℕ_discrete ra.width rb.width)
    (λ w. by_cases (ℕ_discrete ra.height rb.height) (λ h. inl (w, h)) (λ h. inr (inr h)))
    (λ w. inr (inl w))

module _ (a b a' b' : List ℕ) (ra rb ra' rb' : Room) (right : BothRight a b ra rb) (right' : BothRight a' b' ra' rb')
    (same-a : SameContent a ra a' ra') (same-b : SameContent b rb b' rb') (size : ℕ) where
  abbrev m : Rooms
  m = rooms a ra b rb

  abbrev m' : Rooms
  m' = rooms a' ra' b' rb'

  one-outcome : ((ra.width ≡ rb.width) × (ra.height ≡ rb.height)) ⊎ ((ra.width ≡ rb.width → ⊥) ⊎ (ra.height ≡ rb.height → ⊥))
      → outcome_of m size ≡ outcome_of m' size
  one-outcome (inl (w, h)) =
      outcome.same_outcome m m' size (ap₂ eqb same-a.width same-b.width) (ap₂ eqb same-a.height same-b.height)
      (content.same_content m m' same-a same-b w h (whole a b ra rb right))
  one-outcome (inr (inl f)) =
      outcome.sizes_refused m size (inl f) ∙ sym (outcome.sizes_refused m' size (inl (λ e. f (same-a.width ∙ e ∙ sym same-b.width))))
  one-outcome (inr (inr f)) =
      outcome.sizes_refused m size (inr f) ∙ sym (outcome.sizes_refused m' size (inr (λ e. f (same-a.height ∙ e ∙ sym same-b.height))))

  content_only : compared_of a b size ≡ compared_of a' b' size
  content_only = is_of a b ra rb right size ∙ one-outcome (sizes ra rb) ∙ sym (is_of a' b' ra' rb' right' size)

-- ---- in either order

module _ (a b : List ℕ) (ra rb : Room) (right : BothRight a b ra rb) (size : ℕ) where
  swapped_outcome : ((ra.width ≡ rb.width) × (ra.height ≡ rb.height)) ⊎ ((ra.width ≡ rb.width → ⊥) ⊎ (ra.height ≡ rb.height → ⊥))
      → outcome_of (rooms a ra b rb) size ≡ outcome_of (rooms b rb a ra) size
  swapped_outcome (inl (w, h)) =
      outcome.same_outcome (rooms a ra b rb) (rooms b rb a ra) size (ap₂ eqb w (sym w)) (ap₂ eqb h (sym h))
      (content.either_order (rooms a ra b rb) w h)
  swapped_outcome (inr (inl f)) =
      outcome.sizes_refused (rooms a ra b rb) size (inl f) ∙ sym (outcome.sizes_refused (rooms b rb a ra) size (inl (λ e. f (sym e))))
  swapped_outcome (inr (inr f)) =
      outcome.sizes_refused (rooms a ra b rb) size (inr f) ∙ sym (outcome.sizes_refused (rooms b rb a ra) size (inr (λ e. f (sym e))))

  either_order : compared_of a b size ≡ compared_of b a size
  either_order = is_of a b ra rb right size ∙ swapped_outcome (sizes ra rb) ∙ sym (is_of b a rb ra (right.1, right.0) size)

-- ---- what a load leaves

row_loaded : (s : List ℕ) (b : Lent) (r : Room) → Ok r ≡ test_of s b → (p k y : ℕ) → 1 ≤ p → p ≤ r.planes → k < strips r → y < r.height
    → get_or (after_load s b).masks (((p - 1) * r.height + y) * strips r + k) 0 ≡ declared s r p k y
unfolding declared
row_loaded s b r accepted p k y one named in-k in-y =
    rw (le-leb p r.planes named) (load.left-mask s b r accepted p k y one named in-k in-y)

pub request1 : Request1
request1 =
    record {
      listed = λ a b l. accepted a b l (compared_of a b (length l)) (outcome.verdict a b (length l));
      pixel-loaded = load.left-pixel;
      row_loaded = row_loaded;
      undeclared = content.undeclared;
      content_only = content_only;
      alike = none-listed;
      itself = λ a ra right l.
          none-listed a a ra ra (right, right)
          (record { width = refl; height = refl; pixels = λ x y in-x in-y. refl; planes = λ p k y one in-k in-y. refl }) l;
      either_order = either_order;
    }
