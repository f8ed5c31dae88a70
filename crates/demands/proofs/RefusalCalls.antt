-- The numbers of a call that tests the room first: the room's, then its own. f is the call's number by the test's answer.
use Rattle.std.proofs.Common.{◌≡◌, refl, sym, ap, ◌∙◌, subst, List, ◌⊎◌, inl, inr, ◌↔◌, ℕ, ◌≤◌, arith, Result, Ok, Err}
use Rattle.room.specs.Test.{room_test, number_of}
use Rattle.room.specs.declared.Lent.{Lent}
use Rattle.room.specs.declared.Room.{Room}
use Rattle.scene.specs.Steps.{some}
use Rattle.demands.specs.Refusals.{Passing}
use Rattle.demands.proofs.RefusalRooms.{Verdict, verdict, number_is}

module _ (lent : Lent) (s : List ℕ) (f : Result Room ℕ → ℕ) (refused : (n : ℕ) → f (Err n) ≡ n) where
  -- a number that isn't the room's: 0, or past 8
  outside : (m : ℕ) (P : Room → Type 0) → ((n : ℕ) → 1 ≤ n → n ≤ 8 → n ≡ m → ⊥) → ((r : Room) → room_test lent s ≡ Ok r → (f (Ok r) ≡ m) ↔ P r)
      → (f (room_test lent s) ≡ m) ↔ Passing lent s P
  outside m P other right = (there (room_test lent s) refl (verdict lent s), λ (r, e, p). ap f e ∙ (right r e).1 p)
    where
      there : (t : Result Room ℕ) → room_test lent s ≡ t → Verdict lent s t → f t ≡ m → Passing lent s P
      there (Ok r) e v h = (r, e, (right r e).0 h)
      there (Err n) e v h = absurd (other n (number_is lent s n v).0 (number_is lent s n v).1 (sym (refused n) ∙ h))

  pub late : (m : ℕ) (P : Room → Type 0) → 9 ≤ m → ((r : Room) → room_test lent s ≡ Ok r → (f (Ok r) ≡ m) ↔ P r)
      → (f (room_test lent s) ≡ m) ↔ Passing lent s P
  late m P big right = outside m P (λ n some few e. omega arith) right

  pub accepts : (P : Room → Type 0) → ((r : Room) → room_test lent s ≡ Ok r → (f (Ok r) ≡ 0) ↔ P r) → (f (room_test lent s) ≡ 0) ↔ Passing lent s P
  accepts P right = outside 0 P (λ n some few e. omega arith) right

  -- one that may be the room's
  pub early : (m : ℕ) (P : Room → Type 0) → 1 ≤ m → ((r : Room) → room_test lent s ≡ Ok r → (f (Ok r) ≡ m) ↔ P r)
      → (f (room_test lent s) ≡ m) ↔ ((number_of (room_test lent s) ≡ m) ⊎ Passing lent s P)
  early m P some right = (there (room_test lent s) refl, back)
    where
      there : (t : Result Room ℕ) → room_test lent s ≡ t → f t ≡ m → (number_of (room_test lent s) ≡ m) ⊎ Passing lent s P
      there (Ok r) e h = inr (r, e, (right r e).0 h)
      there (Err n) e h = inl (ap number_of e ∙ sym (refused n) ∙ h)

      of_room : (t : Result Room ℕ) → number_of t ≡ m → f t ≡ m
      of_room (Ok r) h = absurd (omega arith)
      of_room (Err n) h = refused n ∙ h

      back : (number_of (room_test lent s) ≡ m) ⊎ Passing lent s P → f (room_test lent s) ≡ m
      back (inl h) = of_room (room_test lent s) h
      back (inr (r, e, p)) = ap f e ∙ (right r e).1 p

  -- one that is the room's alone
  pub only : (m : ℕ) → 1 ≤ m → ((r : Room) → room_test lent s ≡ Ok r → f (Ok r) ≡ m → ⊥) → (f (room_test lent s) ≡ m) ↔ (number_of (room_test lent s) ≡ m)
  only m some not_right = (λ h. there ((early m (λ r. ⊥) some none).0 h), λ h. (early m (λ r. ⊥) some none).1 (inl h))
    where
      none : (r : Room) → room_test lent s ≡ Ok r → (f (Ok r) ≡ m) ↔ ⊥
      none r e = (not_right r e, λ w. absurd w)

      there : (number_of (room_test lent s) ≡ m) ⊎ Passing lent s (λ r. ⊥) → number_of (room_test lent s) ≡ m
      there (inl h) = h
      there (inr (r, e, w)) = absurd w

  -- what holds of the room's numbers and 0, and of the call's own, holds of all
  pub numbers : (P : ℕ → Type 0) → ((n : ℕ) → n ≤ 8 → P n) → ((r : Room) → room_test lent s ≡ Ok r → P (f (Ok r))) → P (f (room_test lent s))
  numbers P of_room own = go (room_test lent s) refl (verdict lent s)
    where
      go : (t : Result Room ℕ) → room_test lent s ≡ t → Verdict lent s t → P (f t)
      go (Ok r) e v = own r e
      go (Err n) e v = subst P (sym (refused n)) (of_room n (number_is lent s n v).1)
