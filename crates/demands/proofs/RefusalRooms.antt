-- Which rooms are refused with 1 to 8, and which pass: the whole test of a room, taken apart in its order.
use Rattle.std.proofs.Common.{◌≡◌, refl, ap, ◌∙◌, subst, Bool, true, false, cond, ◌&&◌, ◌||◌, List, ◌⊎◌, inl, inr, ◌↔◌, ℕ, ◌*◌, ◌/◌, ◌≤◌, ◌<◌, arith, ltb, Option, Some, None, Result, Ok, Err}
use Rattle.block.specs.Tree.{well_formed}
use Rattle.room.specs.Head.{needed_in, objects_right, trns_in, holds_index, room_of, sized, head_in, head_of}
use Rattle.room.specs.Test.{strips, pictures_test, short, room_when_passed, after_head, room_test, number_of, fixed_only, with_surfaces, with_flags}
use Rattle.room.specs.declared.Lent.{Lent}
use Rattle.room.specs.declared.Parts.{Parts}
use Rattle.room.specs.declared.Room.{Room}
use Rattle.demands.specs.PictureRefusals.{AllPass, picture_of, TableWrong, AtStrip, UnknownCode, BytesRunOut, PassesEnd}
use Rattle.demands.specs.Refusals.{Blocks, sizes_inside, Sized, AtRoom}
use Rattle.demands.proofs.RefusalTests.{below, one_holds, both_hold, one_fails, either_way, same, ◌then◌}
use Rattle.demands.proofs.RefusalPictures as picture

module _ (s : List ℕ) where
  -- each of 1 to 3, where what is said of it holds
  unformed : well_formed s ≡ false → head_of s ≡ Err 1
  unfolding head_of
  unformed e = ap (λ (q : Bool). cond q (head_in s (needed_in s)) (Err 1)) e

  formed : well_formed s ≡ true → head_of s ≡ head_in s (needed_in s)
  unfolding head_of
  formed e = ap (λ (q : Bool). cond q (head_in s (needed_in s)) (Err 1)) e

  -- what is asked beside the needed blocks
  abbrev rest : Bool
  rest = objects_right s && holds_index (trns_in s)

  lacking : well_formed s ≡ true → (needed_in s ≡ None) ⊎ (objects_right s ≡ false) ⊎ (holds_index (trns_in s) ≡ false) → head_of s ≡ Err 2
  lacking e (inl none) = formed e ∙ ap (head_in s) none
  lacking e (inr wrong) = formed e ∙ go (needed_in s)
    where
      go : (f : Option Parts) → head_in s f ≡ Err 2
      go (Some p) = ap (λ (q : Bool). cond q (sized (room_of s p)) (Err 2)) ((one_fails (objects_right s) (holds_index (trns_in s))).1 wrong)
      go None = refl

  blocks_are : (p : Parts) → Blocks s p → head_of s ≡ sized (room_of s p)
  blocks_are p (e, needed, objects, index) =
      formed e ∙ ap (head_in s) needed
      ∙ ap (λ (q : Bool). cond q (sized (room_of s p)) (Err 2)) ((both_hold (objects_right s) (holds_index (trns_in s))).1 (objects, index))

  unsized : (p : Parts) → Blocks s p → sizes_inside (room_of s p) ≡ false → head_of s ≡ Err 3
  unfolding sized
  unsized p blocks e = blocks_are p blocks ∙ ap (λ (q : Bool). cond q (Ok (room_of s p)) (Err 3)) e

  sized-right : (r : Room) → Sized s r → head_of s ≡ Ok r
  unfolding sized
  sized-right r (p, blocks, room, e) =
      blocks_are p blocks ∙ ap sized room ∙ ap (λ (q : Bool). cond q (Ok r) (Err 3)) e

  -- and what the head's test comes to: one of them, or the room
  abbrev pub HeadIs : Result Room ℕ → Type 0
  HeadIs (Ok r) = Sized s r
  HeadIs (Err n) =
      ((n ≡ 1) × (well_formed s ≡ false))
      ⊎ ((n ≡ 2) × (well_formed s ≡ true) × ((needed_in s ≡ None) ⊎ (objects_right s ≡ false) ⊎ (holds_index (trns_in s) ≡ false)))
      ⊎ ((n ≡ 3) × ((p : Parts) × Blocks s p × (sizes_inside (room_of s p) ≡ false)))

  sized_is : (p : Parts) → Blocks s p → (q : Bool) → sizes_inside (room_of s p) ≡ q → HeadIs (cond q (Ok (room_of s p)) (Err 3))
  sized_is p blocks true e = (p, blocks, refl, e)
  sized_is p blocks false e = inr (inr (refl, (p, blocks, e)))

  objects_is : (p : Parts) → well_formed s ≡ true → needed_in s ≡ Some p → (q : Bool) → rest ≡ q → HeadIs (cond q (sized (room_of s p)) (Err 2))
  unfolding sized
  objects_is p formed needed true e =
      let both = (both_hold (objects_right s) (holds_index (trns_in s))).0 e in
      sized_is p (formed, needed, both.0, both.1) (sizes_inside (room_of s p)) refl
  objects_is p formed needed false e = inr (inl (refl, formed, inr ((one_fails (objects_right s) (holds_index (trns_in s))).0 e)))

  needed_is : well_formed s ≡ true → (f : Option Parts) → needed_in s ≡ f → HeadIs (head_in s f)
  needed_is formed (Some p) e = objects_is p formed e rest refl
  needed_is formed None e = inr (inl (refl, formed, inl e))

  formed_is : (q : Bool) → well_formed s ≡ q → HeadIs (cond q (head_in s (needed_in s)) (Err 1))
  formed_is true e = needed_is e (needed_in s) refl
  formed_is false e = inl (refl, e)

  pub head_is : HeadIs (head_of s)
  unfolding head_of
  head_is = formed_is (well_formed s) refl

module _ (lent : Lent) (s : List ℕ) where
  abbrev PicturesPass : Room → Type 0
  PicturesPass r = AllPass s (picture_of r)

  -- what the whole test comes to: the room, or what is wrong with it
  abbrev pub Verdict : Result Room ℕ → Type 0
  Verdict (Ok r) = Sized s r × (short lent r ≡ false) × PicturesPass r
  Verdict (Err n) =
      HeadIs s (Err n) ⊎ ((n ≡ 4) × ((r : Room) × Sized s r × (short lent r ≡ true))) ⊎ AtRoom lent s (λ r. picture.Wrong s (picture_of r) n)

  passing : (r : Room) → pictures_test s r ≡ Ok tt → PicturesPass r
  unfolding pictures_test
  passing r e = picture.passed-each s (picture_of r) e

  pictures_are : (r : Room) → Sized s r → short lent r ≡ false → (t : Result (Unit {0}) ℕ) → pictures_test s r ≡ t → Verdict (room_when_passed t r)
  unfolding pictures_test
  pictures_are r head enough (Ok tt) e = (head, enough, passing r e)
  pictures_are r head enough (Err n) e = inr (inr (r, head, enough, picture.refused_wrong s (picture_of r) n e))

  lent_is : (r : Room) → Sized s r → (q : Bool) → short lent r ≡ q → Verdict (cond q (Err 4) (room_when_passed (pictures_test s r) r))
  lent_is r head true e = inr (inl (refl, (r, head, e)))
  lent_is r head false e = pictures_are r head e (pictures_test s r) refl

  after_is : (h : Result Room ℕ) → HeadIs s h → Verdict (after_head lent s h)
  unfolding after_head
  after_is (Ok r) head = lent_is r head (short lent r) refl
  after_is (Err n) head = inl head

  pub verdict : Verdict (room_test lent s)
  unfolding room_test
  verdict = after_is (head_of s) (head_is s)

  -- the other way
  head_refused : (n : ℕ) → head_of s ≡ Err n → room_test lent s ≡ Err n
  unfolding room_test after_head
  head_refused n e = ap (after_head lent s) e

  head_right : (r : Room) → Sized s r → room_test lent s ≡ cond (short lent r) (Err 4) (room_when_passed (pictures_test s r) r)
  unfolding room_test after_head
  head_right r head = ap (after_head lent s) (sized-right s r head)

  lent-short : (r : Room) → Sized s r → short lent r ≡ true → room_test lent s ≡ Err 4
  lent-short r head e = head_right r head ∙ ap (λ (q : Bool). cond q (Err 4) (room_when_passed (pictures_test s r) r)) e

  lent-enough : (r : Room) → Sized s r → short lent r ≡ false → room_test lent s ≡ room_when_passed (pictures_test s r) r
  lent-enough r head e = head_right r head ∙ ap (λ (q : Bool). cond q (Err 4) (room_when_passed (pictures_test s r) r)) e

  pictures_wrong : (n : ℕ) (r : Room) → Sized s r → short lent r ≡ false → picture.Wrong s (picture_of r) n → room_test lent s ≡ Err n
  unfolding pictures_test
  pictures_wrong n r head enough wrong =
      lent-enough r head enough ∙ ap (λ (t : Result (Unit {0}) ℕ). room_when_passed t r) (picture.wrong_refused s (picture_of r) n wrong)

  all_pass : (r : Room) → PicturesPass r → pictures_test s r ≡ Ok tt
  unfolding pictures_test
  all_pass r pass = picture.all-passed s (picture_of r) pass

  pub accepted : (r : Room) → (room_test lent s ≡ Ok r) ↔ (Sized s r × (short lent r ≡ false) × PicturesPass r)
  accepted r = (
    λ e. subst Verdict e verdict,
    λ (head, enough, pass). lent-enough r head enough ∙ ap (λ (t : Result (Unit {0}) ℕ). room_when_passed t r) (all_pass r pass),
  )

  -- ---- by numbers

  -- a refused room's number is 1 to 8
  pub number_is : (n : ℕ) → Verdict (Err n) → (1 ≤ n) × (n ≤ 8)
  number_is n (inl (inl (e, w))) = (omega arith, omega arith)
  number_is n (inl (inr (inl (e, w, v)))) = (omega arith, omega arith)
  number_is n (inl (inr (inr (e, w)))) = (omega arith, omega arith)
  number_is n (inr (inl (e, w))) = (omega arith, omega arith)
  number_is n (inr (inr (r, head, enough, w))) = let b = picture.wrong_number s (picture_of r) n w in (omega (arith, b.0), b.1)

  refused_of : (n : ℕ) → 1 ≤ n → (t : Result Room ℕ) → number_of t ≡ n → t ≡ Err n
  refused_of n some (Ok r) e = absurd (omega arith)
  refused_of n some (Err m) e = ap Err e

  pub by_number : (n : ℕ) → 1 ≤ n → number_of (room_test lent s) ≡ n → room_test lent s ≡ Err n
  by_number n some e = refused_of n some (room_test lent s) e

  why : (n : ℕ) → 1 ≤ n → number_of (room_test lent s) ≡ n → Verdict (Err n)
  why n some e = subst Verdict (by_number n some e) verdict

  pub number-few : number_of (room_test lent s) ≤ 8
  number-few = go (room_test lent s) verdict
    where
      go : (t : Result Room ℕ) → Verdict t → number_of t ≤ 8
      go (Ok r) v = omega arith
      go (Err n) v = (number_is n v).1

  pub one : (number_of (room_test lent s) ≡ 1) ↔ (well_formed s ≡ false)
  one = (λ e. go (why 1 (omega arith) e), λ w. ap number_of (head_refused 1 (unformed s w)))
    where
      go : Verdict (Err 1) → well_formed s ≡ false
      go (inl (inl (e, w))) = w
      go (inl (inr (inl (e, w, v)))) = absurd (omega arith)
      go (inl (inr (inr (e, w)))) = absurd (omega arith)
      go (inr (inl (e, w))) = absurd (omega arith)
      go (inr (inr (r, head, enough, w))) = absurd (omega (arith, (picture.wrong_number s (picture_of r) 1 w).0))

  pub two : (number_of (room_test lent s) ≡ 2)
      ↔ ((well_formed s ≡ true) × ((needed_in s ≡ None) ⊎ (objects_right s ≡ false) ⊎ (holds_index (trns_in s) ≡ false)))
  two = (λ e. go (why 2 (omega arith) e), λ (w, v). ap number_of (head_refused 2 (lacking s w v)))
    where
      go : Verdict (Err 2) → (well_formed s ≡ true) × ((needed_in s ≡ None) ⊎ (objects_right s ≡ false) ⊎ (holds_index (trns_in s) ≡ false))
      go (inl (inl (e, w))) = absurd (omega arith)
      go (inl (inr (inl (e, w, v)))) = (w, v)
      go (inl (inr (inr (e, w)))) = absurd (omega arith)
      go (inr (inl (e, w))) = absurd (omega arith)
      go (inr (inr (r, head, enough, w))) = absurd (omega (arith, (picture.wrong_number s (picture_of r) 2 w).0))

  pub three : (number_of (room_test lent s) ≡ 3) ↔ ((p : Parts) × Blocks s p × (sizes_inside (room_of s p) ≡ false))
  three = (λ e. go (why 3 (omega arith) e), λ (p, blocks, w). ap number_of (head_refused 3 (unsized s p blocks w)))
    where
      go : Verdict (Err 3) → (p : Parts) × Blocks s p × (sizes_inside (room_of s p) ≡ false)
      go (inl (inl (e, w))) = absurd (omega arith)
      go (inl (inr (inl (e, w, v)))) = absurd (omega arith)
      go (inl (inr (inr (e, w)))) = w
      go (inr (inl (e, w))) = absurd (omega arith)
      go (inr (inr (r, head, enough, w))) = absurd (omega (arith, (picture.wrong_number s (picture_of r) 3 w).0))

  pub four : (number_of (room_test lent s) ≡ 4) ↔ ((r : Room) × Sized s r × (short lent r ≡ true))
  four = (λ e. go (why 4 (omega arith) e), λ (r, head, w). ap number_of (lent-short r head w))
    where
      go : Verdict (Err 4) → (r : Room) × Sized s r × (short lent r ≡ true)
      go (inl (inl (e, w))) = absurd (omega arith)
      go (inl (inr (inl (e, w, v)))) = absurd (omega arith)
      go (inl (inr (inr (e, w)))) = absurd (omega arith)
      go (inr (inl (e, w))) = w
      go (inr (inr (r, head, enough, w))) = absurd (omega (arith, (picture.wrong_number s (picture_of r) 4 w).0))

  -- 5 to 8
  pictures : (n : ℕ) → 5 ≤ n → (number_of (room_test lent s) ≡ n) ↔ AtRoom lent s (λ r. picture.Wrong s (picture_of r) n)
  pictures n some = (λ e. go (why n (omega arith) e), λ (r, head, enough, w). ap number_of (pictures_wrong n r head enough w))
    where
      go : Verdict (Err n) → AtRoom lent s (λ r. picture.Wrong s (picture_of r) n)
      go (inl (inl (e, w))) = absurd (omega arith)
      go (inl (inr (inl (e, w, v)))) = absurd (omega arith)
      go (inl (inr (inr (e, w)))) = absurd (omega arith)
      go (inr (inl (e, w))) = absurd (omega arith)
      go (inr (inr at)) = at

  at_room : (P Q : Room → Type 0) → ((r : Room) → P r ↔ Q r) → AtRoom lent s P ↔ AtRoom lent s Q
  at_room P Q e = (λ (r, head, enough, w). (r, head, enough, (e r).0 w), λ (r, head, enough, w). (r, head, enough, (e r).1 w))

  pub five : (number_of (room_test lent s) ≡ 5) ↔ AtRoom lent s (λ r. TableWrong s (picture_of r))
  five = pictures 5 (omega arith) then at_room _ _ (λ r. picture.only-five s (picture_of r))

  pub six : (number_of (room_test lent s) ≡ 6) ↔ AtRoom lent s (λ r. AtStrip s (picture_of r) UnknownCode)
  six = pictures 6 (omega arith) then at_room _ _ (λ r. picture.only-six s (picture_of r))

  pub seven : (number_of (room_test lent s) ≡ 7) ↔ AtRoom lent s (λ r. AtStrip s (picture_of r) BytesRunOut)
  seven = pictures 7 (omega arith) then at_room _ _ (λ r. picture.only-seven s (picture_of r))

  pub eight : (number_of (room_test lent s) ≡ 8) ↔ AtRoom lent s (λ r. AtStrip s (picture_of r) PassesEnd)
  eight = pictures 8 (omega arith) then at_room _ _ (λ r. picture.only-eight s (picture_of r))

-- ---- what is lent

none_false : {A : Type 0} → (A ⊎ (◌≡◌ {A = Bool} false true)) ↔ A
none_false {A} = (there, inl)
  where
    there : A ⊎ (◌≡◌ {A = Bool} false true) → A
    there (inl a) = a
    there (inr e) = absurd (let z : ◌≡◌ {A = ℕ} 0 1 = cc in omega arith)

pub short_fixed : (size n : ℕ) (r : Room) → (short (fixed_only size n) r ≡ true) ↔ (n < size)
unfolding short
short_fixed size n r = one_holds (ltb n size || false) false then none_false then one_holds (ltb n size) false then none_false then below n size

pub short-surfaces : (size n pixels masks : ℕ) (r : Room) → (short (with_surfaces size n pixels masks) r ≡ true)
    ↔ ((n < size) ⊎ (pixels < r.width * r.height) ⊎ (masks < strips r * (r.planes * r.height)))
unfolding short
short-surfaces size n pixels masks r =
    one_holds (ltb n size || (ltb pixels (r.width * r.height) || ltb masks (strips r * (r.planes * r.height)))) false
    then none_false
    then one_holds (ltb n size) (ltb pixels (r.width * r.height) || ltb masks (strips r * (r.planes * r.height)))
    then either_way (below n size)
    (one_holds (ltb pixels (r.width * r.height)) (ltb masks (strips r * (r.planes * r.height)))
    then either_way (below pixels (r.width * r.height)) (below masks (strips r * (r.planes * r.height))))

pub short-flags : (size n flags : ℕ) (r : Room) → (short (with_flags size n flags) r ≡ true) ↔ ((n < size) ⊎ (flags < r.objects))
unfolding short
short-flags size n flags r =
    one_holds (ltb n size || false) (ltb flags r.objects)
    then either_way (one_holds (ltb n size) false then none_false then below n size) (below flags r.objects)

-- a row of 32 bytes for each object
pub short_rows : (n rows : ℕ) (r : Room) → (short (with_flags 16 n (rows / 32)) r ≡ true) ↔ ((n < 16) ⊎ (rows < 32 * r.objects))
short_rows n rows r = short-flags 16 n (rows / 32) r then either_way same (λ few. omega arith, λ few. omega arith)
