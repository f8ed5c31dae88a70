-- Laws of a comparison's outcome: which refusal, or the list. Assumes nothing.
use Rattle.std.proofs.Common.{ℕ, ◌/◌, ◌≤◌, ◌<◌, ◌≡◌, refl, sym, ap, ◌∙◌, Bool, true, false, cond, ◌&&◌, List, ◌⊎◌, inl, inr, arith, eq-eqb, ne_eqb, le-leb, eqb-true, leb-true, leb-false, eqb, leb, length, Result, Ok, Err}
use borrow.Author.Tests.{lt-leb, eqb-false}
use Rattle.room.specs.Test.{strips, room_test, nothing}
use Rattle.room.specs.declared.Lent.{Lent}
use Rattle.room.specs.declared.Room.{Room}
use Rattle.room.proofs.TestLaws.{test-passes}
use Rattle.compare.specs.Compare.{Rooms, rooms, Outcome, no, ok, difference_at, differences, outcome_of, outcome_by_b, outcome_by_a, compared_of, answer_of, value}
use Rattle.compare.specs.Tables.{Tested}
use Rattle.compare.proofs.PlaceLaws.{listed-few}

-- ---- two rooms that pass

module _ (m : Rooms) (size : ℕ) where
  pub sizes_refused : (m.ra.width ≡ m.rb.width → ⊥) ⊎ (m.ra.height ≡ m.rb.height → ⊥) → outcome_of m size ≡ no 16
  unfolding outcome_of
  sizes_refused (inl f) = rw (ne_eqb m.ra.width m.rb.width f)
  sizes_refused (inr f) = rw (ne_eqb m.ra.height m.rb.height f) (go (eqb m.ra.width m.rb.width))
    where
      go : (t : Bool) → cond (t && false) (cond (leb (length (differences m)) (size / 8)) (ok (differences m)) (no 4)) (no 16) ≡ no 16
      go true = refl
      go false = refl

  module _ (width : m.ra.width ≡ m.rb.width) (height : m.ra.height ≡ m.rb.height) where
    pub short-refused : size / 8 < length (differences m) → outcome_of m size ≡ no 4
    unfolding outcome_of
    short-refused lt =
        rw (eq-eqb m.ra.width m.rb.width width, eq-eqb m.ra.height m.rb.height height, lt-leb (length (differences m)) (size / 8) lt)

    pub listed : length (differences m) ≤ size / 8 → outcome_of m size ≡ ok (differences m)
    unfolding outcome_of
    listed le =
        rw (eq-eqb m.ra.width m.rb.width width, eq-eqb m.ra.height m.rb.height height, le-leb (length (differences m)) (size / 8) le)

-- the same sizes asked, the same differences: the same outcome
pub same_outcome : (m m' : Rooms) (size : ℕ) → eqb m.ra.width m.rb.width ≡ eqb m'.ra.width m'.rb.width
    → eqb m.ra.height m.rb.height ≡ eqb m'.ra.height m'.rb.height → differences m ≡ differences m'
    → outcome_of m size ≡ outcome_of m' size
unfolding outcome_of
same_outcome m m' size wide high same =
    λ i. cond (wide i && high i) (cond (leb (length (same i)) (size / 8)) (ok (same i)) (no 4)) (no 16)

-- ---- both tests

pub test_is : (s : List ℕ) (lent : Lent) (t u : Result Room ℕ) → lent ≡ nothing → t ≡ room_test lent s → t ≡ u → room_test nothing s ≡ u
test_is s lent t u none test is = sym (ap (λ (l : Lent). room_test l s) none) ∙ sym test ∙ is

pub tested : (s : List ℕ) (r : Room) → room_test nothing s ≡ Ok r → Tested s r
tested s r right = let passes = test-passes nothing s r (sym right) in record { sound = passes.sound; passes = passes.pictures }

module _ (a b : List ℕ) (size : ℕ) where
  pub a-refused : (n : ℕ) → room_test nothing a ≡ Err n → compared_of a b size ≡ no n
  unfolding compared_of
  a-refused n refused = rw refused

  module _ (ra : Room) (first : room_test nothing a ≡ Ok ra) where
    pub b-refused : (n : ℕ) → room_test nothing b ≡ Err n → compared_of a b size ≡ no n
    unfolding compared_of
    b-refused n refused = rw (first, refused)

    pub both_right : (rb : Room) → room_test nothing b ≡ Ok rb → compared_of a b size ≡ outcome_of (rooms a ra b rb) size
    unfolding compared_of
    both_right rb second = rw (first, second)

  -- ---- the other way: what an outcome says of the rooms

  -- both pass, and P holds of them
  abbrev pub Both : (Room → Room → Type 0) → Type 0
  Both P = (ra : Room) × (rb : Room) × (room_test nothing a ≡ Ok ra) × (room_test nothing b ≡ Ok rb) × P ra rb

  abbrev pub SizesDiffer : (ra rb : Room) → Type 0
  SizesDiffer ra rb = (ra.width ≡ rb.width → ⊥) ⊎ (ra.height ≡ rb.height → ⊥)

  abbrev pub ListShort : (ra rb : Room) → Type 0
  ListShort ra rb = (ra.width ≡ rb.width) × (ra.height ≡ rb.height) × (size / 8 < length (differences (rooms a ra b rb)))

  abbrev pub ListEnough : (ra rb : Room) → Type 0
  ListEnough ra rb = (ra.width ≡ rb.width) × (ra.height ≡ rb.height) × (length (differences (rooms a ra b rb)) ≤ size / 8)

  abbrev pub Verdict : Outcome → Type 0
  Verdict (no n) =
      (room_test nothing a ≡ Err n)
      ⊎ ((ra : Room) × (room_test nothing a ≡ Ok ra) × (room_test nothing b ≡ Err n))
      ⊎ ((n ≡ 16) × Both SizesDiffer)
      ⊎ ((n ≡ 4) × Both ListShort)
  Verdict (ok ds) = Both (λ ra rb. ListEnough ra rb × (ds ≡ differences (rooms a ra b rb)))

  module _ (ra rb : Room) (first : room_test nothing a ≡ Ok ra) (second : room_test nothing b ≡ Ok rb) where
    abbrev places : ℕ
    places = length (differences (rooms a ra b rb))

    sizes_are : (w h e : Bool) → eqb ra.width rb.width ≡ w → eqb ra.height rb.height ≡ h → leb places (size / 8) ≡ e
        → Verdict (cond (w && h) (cond e (ok (differences (rooms a ra b rb))) (no 4)) (no 16))
    sizes_are true true true wide high enough =
        (ra, rb, first, second, ((eqb-true _ _ wide, eqb-true _ _ high, leb-true _ _ enough), refl))
    sizes_are true true false wide high enough =
        inr (inr (inr (refl, (ra, rb, first, second, (eqb-true _ _ wide, eqb-true _ _ high, leb-false _ _ enough)))))
    sizes_are true false e wide high enough = inr (inr (inl (refl, (ra, rb, first, second, inr (eqb-false _ _ high)))))
    sizes_are false h e wide high enough = inr (inr (inl (refl, (ra, rb, first, second, inl (eqb-false _ _ wide)))))

    outcome_is : Verdict (outcome_of (rooms a ra b rb) size)
    unfolding outcome_of
    outcome_is =
        sizes_are (eqb ra.width rb.width) (eqb ra.height rb.height) (leb places (size / 8)) refl refl refl

  second_is : (ra : Room) → room_test nothing a ≡ Ok ra → (t : Result Room ℕ) → room_test nothing b ≡ t → Verdict (outcome_by_b a ra b size t)
  second_is ra first (Ok rb) second = outcome_is ra rb first second
  second_is ra first (Err n) second = inr (inl (ra, first, second))

  first_is : (t : Result Room ℕ) → room_test nothing a ≡ t → Verdict (outcome_by_a a b size t)
  first_is (Ok ra) first = second_is ra first (room_test nothing b) refl
  first_is (Err n) first = inl first

  pub verdict : Verdict (compared_of a b size)
  unfolding compared_of
  verdict = first_is (room_test nothing a) refl

-- no list has more places than a room has strips
pub value-few : (a b : List ℕ) (size : ℕ) (r : Result ℕ ℕ) → r ≡ answer_of (compared_of a b size) → value r ≤ 128
value-few a b size r e = rw e (go (compared_of a b size) (verdict a b size))
  where
    go : (o : Outcome) → Verdict a b size o → value (answer_of o) ≤ 128
    go (no n) says = omega arith
    go (ok ds) (ra, rb, first, second, (enough, is)) =
        let few = listed-few (difference_at (rooms a ra b rb)) (strips ra) in
        rw is (omega (arith, few, (tested a ra first).sound.widest))
