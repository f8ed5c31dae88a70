-- The numbers of a comparison: A's, B's, 16 and 4, each exactly when.
use Rattle.std.proofs.Common.{◌≡◌, refl, sym, ap, ◌∙◌, subst, List, ◌⊎◌, inl, inr, ◌↔◌, ℕ, ◌≤◌, arith, Result, Ok, Err}
use mathlib.Core.Bool.{false≢true}
use Rattle.room.specs.Test.{short, room_test, number_of, nothing}
use Rattle.room.specs.declared.Room.{Room}
use Rattle.compare.specs.Compare.{rooms, Outcome, no, ok, outcome_of, compared_of, answer_of, number}
use Rattle.compare.proofs.OutcomeLaws as outcome
use Rattle.demands.specs.Numbers.{UpToOr}
use Rattle.demands.specs.Refusals.{compare_number, AtBoth}
use Rattle.demands.proofs.RefusalRooms as room

-- ---- a room alone, nothing lent

module _ (s : List ℕ) where
  pub no-four : number_of (room_test nothing s) ≡ 4 → ⊥
  unfolding short
  no-four e = let (r, head, lacks) = (room.four nothing s).0 e in false≢true lacks

  -- a refused room's number
  pub refused-number : (n : ℕ) → room_test nothing s ≡ Err n → (1 ≤ n) × (n ≤ 8) × (n ≡ 4 → ⊥)
  refused-number n e =
      let is = room.number_is nothing s n (subst (room.Verdict nothing s) e (room.verdict nothing s)) in
      (is.0, is.1, λ four. no-four (ap number_of e ∙ four))

-- ---- the comparison

module _ (a b : List ℕ) (size : ℕ) where
  -- what each number comes from
  abbrev Said : ℕ → Type 0
  Said n =
      ((1 ≤ n) × (n ≤ 8) × (n ≡ 4 → ⊥)
      × ((number_of (room_test nothing a) ≡ n) ⊎ ((number_of (room_test nothing a) ≡ 0) × (number_of (room_test nothing b) ≡ n))))
      ⊎ ((n ≡ 16) × AtBoth a b (outcome.SizesDiffer a b size))
      ⊎ ((n ≡ 4) × AtBoth a b (outcome.ListShort a b size))
      ⊎ ((n ≡ 0) × AtBoth a b (outcome.ListEnough a b size))

  say : (o : Outcome) → outcome.Verdict a b size o → Said (number (answer_of o))
  say (no n) (inl first) = let is = refused-number a n first in inl (is.0, is.1, is.2, inl (ap number_of first))
  say (no n) (inr (inl (ra, first, second))) =
      let is = refused-number b n second in
      inl (is.0, is.1, is.2, inr (ap number_of first, ap number_of second))
  say (no n) (inr (inr (inl v))) = inr (inl v)
  say (no n) (inr (inr (inr v))) = inr (inr (inl v))
  say (ok ds) (ra, rb, first, second, (enough, is)) = inr (inr (inr (refl, (ra, rb, first, second, enough))))

  said : Said (compare_number a b size)
  said = say (compared_of a b size) (outcome.verdict a b size)

  pub compare_numbers : UpToOr 8 16 (compare_number a b size)
  compare_numbers = go (compare_number a b size) said
    where
      go : (n : ℕ) → Said n → UpToOr 8 16 n
      go n (inl v) = inl v.1
      go n (inr (inl v)) = inr v.0
      go n (inr (inr (inl v))) = inl (omega (arith, v.0))
      go n (inr (inr (inr v))) = inl (omega (arith, v.0))

  -- the other way
  by_rooms : (ra rb : Room) → room_test nothing a ≡ Ok ra → room_test nothing b ≡ Ok rb → (o : Outcome)
      → outcome_of (rooms a ra b rb) size ≡ o → compare_number a b size ≡ number (answer_of o)
  by_rooms ra rb first second o e = ap (λ (p : Outcome). number (answer_of p)) (outcome.both_right a b size ra first rb second ∙ e)

  pub compare_zero : (compare_number a b size ≡ 0) ↔ AtBoth a b (outcome.ListEnough a b size)
  compare_zero = (
    λ e. go (compare_number a b size) said e,
    λ (ra, rb, first, second, (w, h, le)). by_rooms ra rb first second _ (outcome.listed (rooms a ra b rb) size w h le),
  )
    where
      go : (n : ℕ) → Said n → n ≡ 0 → AtBoth a b (outcome.ListEnough a b size)
      go n (inl v) e = absurd (omega (arith, v.0, e))
      go n (inr (inl v)) e = absurd (omega (arith, v.0, e))
      go n (inr (inr (inl v))) e = absurd (omega (arith, v.0, e))
      go n (inr (inr (inr v))) e = v.1

  pub compare_four : (compare_number a b size ≡ 4) ↔ AtBoth a b (outcome.ListShort a b size)
  compare_four = (
    λ e. go (compare_number a b size) said e,
    λ (ra, rb, first, second, (w, h, lt)). by_rooms ra rb first second _ (outcome.short-refused (rooms a ra b rb) size w h lt),
  )
    where
      go : (n : ℕ) → Said n → n ≡ 4 → AtBoth a b (outcome.ListShort a b size)
      go n (inl v) e = absurd (v.2 e)
      go n (inr (inl v)) e = absurd (omega (arith, v.0, e))
      go n (inr (inr (inl v))) e = v.1
      go n (inr (inr (inr v))) e = absurd (omega (arith, v.0, e))

  pub compare_sixteen : (compare_number a b size ≡ 16) ↔ AtBoth a b (outcome.SizesDiffer a b size)
  compare_sixteen = (
    λ e. go (compare_number a b size) said e,
    λ (ra, rb, first, second, differ). by_rooms ra rb first second _ (outcome.sizes_refused (rooms a ra b rb) size differ),
  )
    where
      go : (n : ℕ) → Said n → n ≡ 16 → AtBoth a b (outcome.SizesDiffer a b size)
      go n (inl v) e = absurd (omega (arith, v.1, e))
      go n (inr (inl v)) e = v.1
      go n (inr (inr (inl v))) e = absurd (omega (arith, v.0, e))
      go n (inr (inr (inr v))) e = absurd (omega (arith, v.0, e))

  -- A's numbers, then B's
  abbrev RoomSays : ℕ → Type 0
  RoomSays n = (number_of (room_test nothing a) ≡ n) ⊎ ((number_of (room_test nothing a) ≡ 0) × (number_of (room_test nothing b) ≡ n))

  passes : (s : List ℕ) → number_of (room_test nothing s) ≡ 0 → (r : Room) × (room_test nothing s ≡ Ok r)
  passes s e = go (room_test nothing s) refl e
    where
      go : (t : Result Room ℕ) → room_test nothing s ≡ t → number_of t ≡ 0 → (r : Room) × (room_test nothing s ≡ Ok r)
      go (Ok r) is zero = (r, is)
      go (Err n) is zero = absurd (omega (arith, (refused-number s n is).0, zero))

  pub compare_rooms : (n : ℕ) → 1 ≤ n → n ≤ 8 → (n ≡ 4 → ⊥) → (compare_number a b size ≡ n) ↔ RoomSays n
  compare_rooms n some few four = (λ e. go (compare_number a b size) said e, back)
    where
      go : (k : ℕ) → Said k → k ≡ n → RoomSays n
      go k (inl v) e = subst RoomSays e v.3
      go k (inr (inl v)) e = absurd (omega (arith, v.0, e))
      go k (inr (inr (inl v))) e = absurd (four (sym e ∙ v.0))
      go k (inr (inr (inr v))) e = absurd (omega (arith, v.0, e))

      back : RoomSays n → compare_number a b size ≡ n
      back (inl first) = ap (λ (o : Outcome). number (answer_of o)) (outcome.a-refused a b size n (room.by_number nothing a n some first))
      back (inr (none, second)) =
          let (ra, first) = passes a none in
          ap (λ (o : Outcome). number (answer_of o)) (outcome.b-refused a b size ra first n (room.by_number nothing b n some second))
