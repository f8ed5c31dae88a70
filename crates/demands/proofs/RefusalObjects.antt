-- The numbers of an object's header and name, and of the object at a point. A header of a room that passes is never 2: each OBCD has its CDHD.
use Rattle.std.proofs.Common.{◌≡◌, refl, sym, ap, ◌∙◌, subst, Bool, true, false, cond, List, [], ◌∷◌, ◌⊎◌, inl, inr, ◌↔◌, ℕ, zero, suc, ◌+◌, ◌-◌, ◌≤◌, arith, eqb, ltb, length, get_or, Option, Some, None, Result, Ok, Err}
use mathlib.Core.Bool.{false≢true}
use Rattle.number.proofs.BoolLaws.{and_left, both}
use Rattle.block.specs.Tag.{tag-OBCD, tag-CDHD, tag-OBIM, tag-IMHD}
use Rattle.block.specs.Tree.{tagged, need_tag, is_at, has_in, all_of, each_has}
use Rattle.room.specs.Head.{objects_right}
use Rattle.room.specs.Test.{room_test, number_of, nothing, with_flags}
use Rattle.room.specs.declared.Lent.{Lent}
use Rattle.room.specs.declared.Room.{Room}
use Rattle.objects.specs.Object.{payload_at, object_block, block_or_absent, chosen_after, chosen_block, header_in, header_place, place_number}
use Rattle.objects.specs.Name.{chosen_number, name_number}
use Rattle.scene.specs.Session.{right_for, scene_of}
use Rattle.stored.specs.Bytes.{session_of}
use Rattle.stored.specs.Layout.{session_size}
use Rattle.layers.specs.Decoded.{decoded}
use Rattle.point.specs.Objects.{objects_of}
use Rattle.point.specs.Point.{object_at}
use Rattle.point.specs.Call.{found, inside, asked, asked_when_passed, pointed_at, number}
use Rattle.demands.specs.Refusals.{Passing}
use Rattle.demands.proofs.RefusalTests.{fails, after_fails, apart, through, one_fails, not-below, ◌then◌, either_way, both_ways, same, renamed}
use Rattle.demands.proofs.RefusalRooms.{accepted}
use Rattle.demands.proofs.RefusalCalls as calls

-- ---- each object's CDHD is there

pub all_of_each : (p : Option (ℕ × ℕ) → Bool) (l : List (Option (ℕ × ℕ))) (k : ℕ) → p None ≡ true → all_of p l ≡ true → p (get_or l k None) ≡ true
all_of_each p [] k none e = none
all_of_each p (f ∷ l) zero none e = (both (p f) (all_of p l) e).0
all_of_each p (f ∷ l) (suc k) none e = all_of_each p l k none (both (p f) (all_of p l) e).1

module _ (s : List ℕ) (right : objects_right s ≡ true) where
  pub object_has : (k : ℕ) → has_in tag-CDHD 13 s (object_block s k) ≡ true
  unfolding objects_right each_has object_block
  object_has k = go (eqb k 0)
    where
      go : (q : Bool) → has_in tag-CDHD 13 s (cond q None (get_or (tagged tag-OBCD s 8 (length s)) (k - 1) None)) ≡ true
      go true = refl
      go false =
          all_of_each (has_in tag-CDHD 13 s) (tagged tag-OBCD s 8 (length s)) (k - 1) refl
          (and_left (each_has tag-OBCD tag-CDHD 13 s 8 (length s)) (each_has tag-OBIM tag-IMHD 16 s 8 (length s)) right)

  payload-zero : (f : Option (ℕ × ℕ)) → is_at f ≡ true → place_number (payload_at f) ≡ 0
  payload-zero (Some (p, z)) e = refl
  payload-zero None e = absurd (false≢true e)

  header-zero : (f : Option (ℕ × ℕ)) → has_in tag-CDHD 13 s f ≡ true → place_number (header_in s (block_or_absent f)) ≡ 11 → f ≡ None
  header-zero (Some (b, z)) has e = absurd (let z : ◌≡◌ {A = ℕ} 0 11 = sym (payload-zero (need_tag tag-CDHD 13 s (b + 8) z) has) ∙ e in omega arith)
  header-zero None has e = refl

  header_numbers : (f : Option (ℕ × ℕ)) → has_in tag-CDHD 13 s f ≡ true → (place_number (header_in s (block_or_absent f)) ≡ 0)
      ⊎ (place_number (header_in s (block_or_absent f)) ≡ 11)
  header_numbers (Some (b, z)) has = inl (payload-zero (need_tag tag-CDHD 13 s (b + 8) z) has)
  header_numbers None has = inr refl

-- a number that is 0 or 11 isn't another
neither : (a m : ℕ) → 1 ≤ m → m ≤ 10 → (a ≡ 0) ⊎ (a ≡ 11) → a ≡ m → ⊥
neither a m some le (inl e) f = omega arith
neither a m some le (inr e) f = omega arith

module _ (lent : Lent) (s : List ℕ) (k : ℕ) where
  objects-right : (r : Room) → room_test lent s ≡ Ok r → objects_right s ≡ true
  objects-right r e = ((accepted lent s r).0 e).0.1.2

  -- ---- headers

  abbrev header_by : Result Room ℕ → ℕ
  header_by t = place_number (header_in s (chosen_after s k t))

  header_is : place_number (header_place lent s k) ≡ header_by (room_test lent s)
  unfolding header_place chosen_block
  header_is = refl

  pub header_eleven : (place_number (header_place lent s k) ≡ 11) ↔ Passing lent s (λ r. object_block s k ≡ None)
  header_eleven =
      renamed 11 header_is
      then calls.late lent s header_by (λ n. refl) 11 (λ r. object_block s k ≡ None) (omega arith)
      (λ r e.
      let right = objects-right r e in (
        header-zero s right (object_block s k) (object_has s right k),
        λ none. ap (λ (f : Option (ℕ × ℕ)). place_number (header_in s (block_or_absent f))) none,
      ))

  header-own : (r : Room) → room_test lent s ≡ Ok r → (header_by (Ok r) ≡ 0) ⊎ (header_by (Ok r) ≡ 11)
  header-own r e = let right = objects-right r e in header_numbers s right (object_block s k) (object_has s right k)

  pub header-room : (n : ℕ) → 1 ≤ n → n ≤ 8 → (place_number (header_place lent s k) ≡ n) ↔ (number_of (room_test lent s) ≡ n)
  header-room n some le =
      renamed n header_is
      then calls.only lent s header_by (λ m. refl) n some
      (λ r e. neither (header_by (Ok r)) n some (omega arith) (header-own r e))

  pub header_numbered : (place_number (header_place lent s k) ≤ 8) ⊎ (place_number (header_place lent s k) ≡ 11)
  header_numbered = subst (λ (a : ℕ). (a ≤ 8) ⊎ (a ≡ 11)) (sym header_is)
      (calls.numbers lent s header_by (λ n. refl) (λ a. (a ≤ 8) ⊎ (a ≡ 11)) (λ n le. inl le) own)
    where
      few : (a : ℕ) → (a ≡ 0) ⊎ (a ≡ 11) → (a ≤ 8) ⊎ (a ≡ 11)
      few a (inl e) = inl (omega arith)
      few a (inr e) = inr e

      own : (r : Room) → room_test lent s ≡ Ok r → (header_by (Ok r) ≤ 8) ⊎ (header_by (Ok r) ≡ 11)
      own r e = few (header_by (Ok r)) (header-own r e)

-- ---- names

module _ (s : List ℕ) (k : ℕ) where
  abbrev name_by : Result Room ℕ → ℕ
  name_by t = chosen_number (chosen_after s k t)

  name_is : name_number s k ≡ name_by (room_test nothing s)
  unfolding name_number chosen_block
  name_is = refl

  absent : (f : Option (ℕ × ℕ)) → (chosen_number (block_or_absent f) ≡ 11) ↔ (f ≡ None)
  absent (Some (b, z)) = (λ e. absurd (omega arith), λ e. absurd (let q : ◌≡◌ {A = ℕ} 0 1 = cc in omega arith))
  absent None = (λ e. refl, λ e. refl)

  name_numbers : (f : Option (ℕ × ℕ)) → (chosen_number (block_or_absent f) ≡ 0) ⊎ (chosen_number (block_or_absent f) ≡ 11)
  name_numbers (Some (b, z)) = inl refl
  name_numbers None = inr refl

  pub name_eleven : (name_number s k ≡ 11) ↔ Passing nothing s (λ r. object_block s k ≡ None)
  name_eleven =
      renamed 11 name_is
      then calls.late nothing s name_by (λ n. refl) 11 (λ r. object_block s k ≡ None) (omega arith) (λ r e. absent (object_block s k))

  pub name-room : (n : ℕ) → 1 ≤ n → n ≤ 8 → (name_number s k ≡ n) ↔ (number_of (room_test nothing s) ≡ n)
  name-room n some le =
      renamed n name_is
      then calls.only nothing s name_by (λ m. refl) n some
      (λ r e. neither (name_by (Ok r)) n some (omega arith) (name_numbers (object_block s k)))

  pub name_numbered : (name_number s k ≤ 8) ⊎ (name_number s k ≡ 11)
  name_numbered =
      subst (λ (a : ℕ). (a ≤ 8) ⊎ (a ≡ 11)) (sym name_is)
      (calls.numbers nothing s name_by (λ n. refl) (λ a. (a ≤ 8) ⊎ (a ≡ 11)) (λ n le. inl le)
      (λ r e. few (name_by (Ok r)) (name_numbers (object_block s k))))
    where
      few : (a : ℕ) → (a ≡ 0) ⊎ (a ≡ 11) → (a ≤ 8) ⊎ (a ≡ 11)
      few a (inl e) = inl (omega arith)
      few a (inr e) = inr e

-- ---- the object at a point

found-zero : (o : ℕ) → number (found o) ≡ 0
found-zero zero = refl
found-zero (suc o) = refl

module _ (s session flags : List ℕ) (x y : ℕ) where
  abbrev lent : Lent
  lent = with_flags session_size (length session) (length flags)

  abbrev right : Room → Bool
  right r = right_for (decoded s r) (session_of (decoded s r) session)

  abbrev point_by : Result Room ℕ → ℕ
  point_by t = number (asked_when_passed s session flags x y t)

  point_is : number (pointed_at s session flags x y) ≡ point_by (room_test lent s)
  unfolding pointed_at
  point_is = refl

  asked_is : (r : Room) → point_by (Ok r) ≡ cond (right r) (cond (inside r x y) 0 14) 9
  unfolding asked
  asked_is r =
      let here = object_at (objects_of s) (scene_of (decoded s r) (session_of (decoded s r) session)) flags x y in
      through number (right r) (cond (inside r x y) (found here) (Err 14)) (Err 9)
      ∙ ap (λ (a : ℕ). cond (right r) a 9)
      (through number (inside r x y) (found here) (Err 14) ∙ ap (λ (a : ℕ). cond (inside r x y) a 14) (found-zero here))

  outside : (r : Room) → (inside r x y ≡ false) ↔ ((r.width ≤ x) ⊎ (r.height ≤ y))
  outside r = one_fails (ltb x r.width) (ltb y r.height) then either_way (not-below x r.width) (not-below y r.height)

  pub point_nine : (number (pointed_at s session flags x y) ≡ 9) ↔ Passing lent s (λ r. right r ≡ false)
  point_nine =
      renamed 9 point_is
      then calls.late lent s point_by (λ n. refl) 9 (λ r. right r ≡ false) (omega arith)
      (λ r e. renamed 9 (asked_is r) then fails (right r) _ 9 (apart (inside r x y) 0 14 9 (λ h. omega arith) (λ h. omega arith)))

  pub point_fourteen : (number (pointed_at s session flags x y) ≡ 14) ↔ Passing lent s (λ r. (right r ≡ true) × ((r.width ≤ x) ⊎ (r.height ≤ y)))
  point_fourteen =
      renamed 14 point_is
      then calls.late lent s point_by (λ n. refl) 14 (λ r. (right r ≡ true) × ((r.width ≤ x) ⊎ (r.height ≤ y))) (omega arith)
      (λ r e.
      renamed 14 (asked_is r)
      then after_fails (right r) _ 9 14 (λ h. omega arith)
      then both_ways same (fails (inside r x y) 0 14 (λ h. omega arith) then outside r))

  pub point_room : (n : ℕ) → 1 ≤ n → n ≤ 8 → (number (pointed_at s session flags x y) ≡ n) ↔ (number_of (room_test lent s) ≡ n)
  point_room n some le =
      renamed n point_is
      then calls.only lent s point_by (λ m. refl) n some
      (λ r e h.
      apart (right r) _ 9 n (apart (inside r x y) 0 14 n (λ q. omega arith) (λ q. omega arith)) (λ q. omega arith) (sym (asked_is r) ∙ h))

  pub point_numbered : (number (pointed_at s session flags x y) ≤ 9) ⊎ (number (pointed_at s session flags x y) ≡ 14)
  point_numbered =
      subst (λ (a : ℕ). (a ≤ 9) ⊎ (a ≡ 14)) (sym point_is)
      (calls.numbers lent s point_by (λ n. refl) (λ a. (a ≤ 9) ⊎ (a ≡ 14)) (λ n le. inl (omega arith))
      (λ r e. subst (λ (a : ℕ). (a ≤ 9) ⊎ (a ≡ 14)) (sym (asked_is r)) (go (right r) (inside r x y))))
    where
      go : (p q : Bool) → (cond p (cond q 0 14) 9 ≤ 9) ⊎ (◌≡◌ {A = ℕ} (cond p (cond q 0 14) 9) 14)
      go true true = inl (omega arith)
      go true false = inr refl
      go false q = inl (omega arith)
