-- The numbers of draws, hides and take-backs on lent bytes: the room's, 9, then the step's or the take-back's.
use Rattle.std.proofs.Common.{◌≡◌, refl, sym, ◌∙◌, subst, Bool, true, false, cond, List, [], ◌∷◌, ◌⊎◌, inl, inr, ◌↔◌, ℕ, ◌+◌, ◌≤◌, ◌<◌, arith, eqb, length, Some, None, Ok}
use Rattle.block.specs.Tag.{tag-SMAP}
use Rattle.block.specs.Tree.{find_tag}
use Rattle.table.specs.Test.{number}
use Rattle.room.specs.Test.{number_of, with_surfaces}
use Rattle.room.specs.declared.Lent.{Lent}
use Rattle.room.specs.declared.Room.{Room}
use Rattle.image.specs.Image.{state_block, drawable}
use Rattle.image.specs.Fault.{image_fault}
use Rattle.scene.specs.declared.Call.{Call}
use Rattle.scene.specs.declared.Call.TheVariants.{Make, TakeBack}
use Rattle.scene.specs.declared.Place.{Place}
use Rattle.scene.specs.declared.Step.{Step}
use Rattle.scene.specs.declared.Step.TheVariants.{Draw, Hide}
use Rattle.scene.specs.Painting as scene
use Rattle.scene.specs.Steps.{some, most_steps}
use Rattle.scene.specs.Session.{Session, State, right_for, scene_of, unmade, tried, called}
use Rattle.scene.specs.Session as session
use Rattle.stored.specs.Layout.{session_size}
use Rattle.layers.specs.Decoded.{decoded}
use Rattle.play.specs.Calls.{state_of}
use Rattle.play.specs.Bytes as play
use Rattle.demands.specs.PictureRefusals.{Picture, AllPass, TableWrong, AtStrip, UnknownCode, BytesRunOut, PassesEnd}
use Rattle.demands.specs.Refusals.{session_in, AtSession, AtStep, place_allowed, AtImage, image_of, AtPicture, draw_number}
use Rattle.demands.proofs.RefusalTests.{fails, after_fails, ◌then◌, either_way, both_ways, same, renamed}
use Rattle.demands.proofs.RefusalCalls as calls
use Rattle.demands.proofs.RefusalImages as images
use Rattle.demands.proofs.RefusalSteps as steps
use Rattle.demands.proofs.RefusalPictures as picture

-- ---- 9, or what the call is tried with

module _ (room : scene.Room) (b : State) (c : Call) where
  called-number : (called room b c).number ≡ cond (right_for room b.session) (tried room b c).number 9
  unfolding called
  called-number = go (right_for room b.session)
    where
      go : (q : Bool) → (cond q (tried room b c) (session.refused 9 b)).number ≡ cond q (tried room b c).number 9
      go true = refl
      go false = refl

-- a take-back gives 13 or 0
undone : (room : scene.Room) (h : List Step) (b : State) → ((unmade room h b).number ≡ 13) ↔ (h ≡ [])
unfolding unmade
undone room [] b = (λ e. refl, λ e. refl)
undone room (st ∷ h) b = (λ e. absurd (omega arith), λ e. absurd (let z : ◌≡◌ {A = ℕ} 0 1 = cc in omega arith))

undone-zero : (room : scene.Room) (h : List Step) (b : State) → ((unmade room h b).number ≡ 0) ↔ (h ≡ [] → ⊥)
unfolding unmade
undone-zero room [] b = (λ e. absurd (omega arith), λ some. absurd (some refl))
undone-zero room (st ∷ h) b = (λ e none. (let z : ◌≡◌ {A = ℕ} 0 1 = cc in omega arith), λ some. refl)

undone-number : (room : scene.Room) (h : List Step) (b : State) → ((unmade room h b).number ≡ 0) ⊎ ((unmade room h b).number ≡ 13)
unfolding unmade
undone-number room [] b = inr refl
undone-number room (st ∷ h) b = inl refl

module _ (s : List ℕ) (b : play.Lent) where
  abbrev pub lent : Lent
  lent = with_surfaces session_size (length b.session) (length b.pixels) (length b.masks)

  abbrev held : Room → State
  held r = state_of (decoded s r) b.session b.pixels b.masks

  abbrev right : Room → Bool
  right r = right_for (decoded s r) (session_in s r b)

  -- the number of a call that is tried
  abbrev tried_number : Call → Room → ℕ
  tried_number c r = (tried (decoded s r) (held r) c).number

  numbered : (c : Call) (r : Room) (m : ℕ) → (play.number_by s b c (Ok r) ≡ m) ↔ (cond (right r) (tried_number c r) 9 ≡ m)
  numbered c r m = renamed m (called-number (decoded s r) (held r) c)

  -- of a call whose own numbers aren't 9
  pub nine : (c : Call) → ((r : Room) → tried_number c r ≡ 9 → ⊥) → (play.number_of s b c ≡ 9)
      ↔ ((r : Room) × (play.call_test s b ≡ Ok r) × (right r ≡ false))
  nine c other =
      calls.late lent s (play.number_by s b c) (λ n. refl) 9 (λ r. right r ≡ false) (omega arith)
      (λ r e. numbered c r 9 then fails (right r) (tried_number c r) 9 (other r))

  -- a number past 9, and one that may be the room's
  after-nine : (c : Call) (m : ℕ) (P : Room → Session → Type 0) → 10 ≤ m → ((r : Room) → (tried_number c r ≡ m) ↔ P r (session_in s r b))
      → (play.number_of s b c ≡ m) ↔ AtSession s b P
  after-nine c m P big own =
      calls.late lent s (play.number_by s b c) (λ n. refl) m (λ r. (right r ≡ true) × P r (session_in s r b)) (omega arith)
      (λ r e. numbered c r m then after_fails (right r) (tried_number c r) 9 m (λ h. omega arith) then both_ways same (own r))
      then ((λ (r, e, (h, w)). (r, e, h, w)), λ (r, e, h, w). (r, e, (h, w)))

  -- accepted
  zero : (c : Call) (P : Room → Session → Type 0) → ((r : Room) → (tried_number c r ≡ 0) ↔ P r (session_in s r b)) → (play.number_of s b c ≡ 0)
      ↔ AtSession s b P
  zero c P own =
      calls.accepts lent s (play.number_by s b c) (λ n. refl) (λ r. (right r ≡ true) × P r (session_in s r b))
      (λ r e. numbered c r 0 then after_fails (right r) (tried_number c r) 9 0 (λ h. omega arith) then both_ways same (own r))
      then ((λ (r, e, (h, w)). (r, e, h, w)), λ (r, e, h, w). (r, e, (h, w)))

  or-room : (c : Call) (m : ℕ) (P : Room → Session → Type 0) → 1 ≤ m → m ≤ 8 → ((r : Room) → (tried_number c r ≡ m) ↔ P r (session_in s r b))
      → (play.number_of s b c ≡ m) ↔ ((number_of (play.call_test s b) ≡ m) ⊎ AtSession s b P)
  or-room c m P some le own =
      calls.early lent s (play.number_by s b c) (λ n. refl) m (λ r. (right r ≡ true) × P r (session_in s r b)) some
      (λ r e. numbered c r m then after_fails (right r) (tried_number c r) 9 m (λ h. omega arith) then both_ways same (own r))
      then either_way same ((λ (r, e, (h, w)). (r, e, h, w)), λ (r, e, h, w). (r, e, (h, w)))

  of_room : (c : Call) (m : ℕ) → 1 ≤ m → m ≤ 8 → ((r : Room) → tried_number c r ≡ m → ⊥) → (play.number_of s b c ≡ m) ↔ (number_of (play.call_test s b) ≡ m)
  of_room c m some le none =
      calls.only lent s (play.number_by s b c) (λ n. refl) m some
      (λ r e h. none r ((after_fails (right r) (tried_number c r) 9 m (λ k. omega arith)).0 ((numbered c r m).0 h)).1)

  -- ---- draws

  module _ (o st : ℕ) (p : Place) where
    abbrev draw : Call
    draw = Make (Draw o st p)

    fault-small : (r : Room) → (decoded s r).fault o st ≤ 8
    unfolding decoded
    fault-small r = images.fault-few s r o st

    tried-ten : (r : Room) → (tried_number draw r ≡ 10) ↔ (most_steps ≤ length (session_in s r b).history)
    unfolding tried
    tried-ten r = steps.draw_ten (decoded s r) _ _ o st p (fault-small r)

    tried_eleven : (r : Room) → (tried_number draw r ≡ 11) ↔ ((length (session_in s r b).history < most_steps) × (drawable s o st ≡ false))
    unfolding tried decoded
    tried_eleven r = steps.draw_eleven (decoded s r) _ _ o st p (fault-small r)

    tried-twelve : (r : Room) → (tried_number draw r ≡ 12)
        ↔ ((length (session_in s r b).history < most_steps) × ((drawable s o st ≡ true) × (place_allowed s r (session_in s r b) o st p ≡ false)))
    unfolding tried decoded
    tried-twelve r = steps.draw_twelve (decoded s r) _ _ o st p (fault-small r)

    tried_image : (r : Room) (m : ℕ) → m ≤ 8 → (tried_number draw r ≡ m)
        ↔ ((length (session_in s r b).history < most_steps)
        × ((drawable s o st ≡ true) × ((place_allowed s r (session_in s r b) o st p ≡ true) × (number (image_fault r.planes s o st) ≡ m))))
    unfolding tried decoded
    tried_image r m le = steps.draw_image (decoded s r) _ _ o st p (fault-small r) m le

    tried-few : (r : Room) (m : ℕ) → tried_number draw r ≡ m → (m ≤ 8) ⊎ ((m ≡ 10) ⊎ ((m ≡ 11) ⊎ (m ≡ 12)))
    unfolding tried
    tried-few r m e = steps.draw_few (decoded s r) _ _ o st p (fault-small r) m e

    not-nine : (r : Room) → tried_number draw r ≡ 9 → ⊥
    not-nine r e = go (tried-few r 9 e)
      where
        go : (9 ≤ 8) ⊎ ((◌≡◌ {A = ℕ} 9 10) ⊎ ((◌≡◌ {A = ℕ} 9 11) ⊎ (◌≡◌ {A = ℕ} 9 12))) → ⊥
        go (inl e) = omega arith
        go (inr (inl e)) = omega arith
        go (inr (inr (inl e))) = omega arith
        go (inr (inr (inr e))) = omega arith

    pub draw_nine : (play.number_of s b draw ≡ 9) ↔ ((r : Room) × (play.call_test s b ≡ Ok r) × (right r ≡ false))
    draw_nine = nine draw not-nine

    pub draw_ten : (play.number_of s b draw ≡ 10) ↔ AtSession s b (λ r ss. most_steps ≤ length ss.history)
    draw_ten = after-nine draw 10 (λ r ss. most_steps ≤ length ss.history) (omega arith) tried-ten

    pub draw_eleven : (draw_number s b o st p ≡ 11) ↔ AtStep s b (λ r ss. drawable s o st ≡ false)
    draw_eleven = after-nine draw 11 (λ r ss. (length ss.history < most_steps) × (drawable s o st ≡ false)) (omega arith) tried_eleven

    pub draw_twelve : (draw_number s b o st p ≡ 12) ↔ AtStep s b (λ r ss. (drawable s o st ≡ true) × (place_allowed s r ss o st p ≡ false))
    draw_twelve =
        after-nine draw 12 (λ r ss. (length ss.history < most_steps) × ((drawable s o st ≡ true) × (place_allowed s r ss o st p ≡ false))) (omega arith)
        tried-twelve

    -- a number of the image, where Q says what is wrong with it
    image : (m : ℕ) (Q : Room → Type 0) → 1 ≤ m → m ≤ 8
        → ((r : Room) → drawable s o st ≡ true → (number (image_fault r.planes s o st) ≡ m) ↔ Q r)
        → (draw_number s b o st p ≡ m)
        ↔ ((number_of (play.call_test s b) ≡ m) ⊎ AtStep s b (λ r ss. (drawable s o st ≡ true) × (place_allowed s r ss o st p ≡ true) × Q r))
    image m Q some le wrong =
        or-room draw m (λ r ss. (length ss.history < most_steps) × ((drawable s o st ≡ true) × (place_allowed s r ss o st p ≡ true) × Q r)) some le
        (λ r.
        tried_image r m le
        then (
          (λ (few, (shows, (placed, e))). (few, (shows, placed, (wrong r shows).0 e))),
          λ (few, (shows, placed, q)).
              (few, (shows, (placed, (wrong r shows).1 q))),
        ))

    pub draw_two : (draw_number s b o st p ≡ 2)
        ↔ ((number_of (play.call_test s b) ≡ 2) ⊎ AtImage s b o st p (λ r c z. find_tag tag-SMAP s (c + 8) z ≡ None))
    draw_two = image 2 _ (omega arith) (omega arith) (λ r. images.image_two s r o st)

    -- 5 to 8
    pictures : (m : ℕ) (P : Picture → Type 0) → 5 ≤ m → m ≤ 8 → ((i : Picture) → picture.Wrong s i m ↔ P i)
        → (draw_number s b o st p ≡ m) ↔ ((number_of (play.call_test s b) ≡ m) ⊎ AtPicture s b o st p P)
    pictures m P big le only =
        image m (λ r. (c : ℕ) × (z : ℕ) × (state_block s o st ≡ Some (c, z))
        × ((smap : ℕ) × (last : ℕ) × (find_tag tag-SMAP s (c + 8) z ≡ Some (smap, last)) × P (image_of s r o c z smap last))) (omega arith) le
        (λ r shows.
        images.image_more s r o st m big shows
        then (
          (λ (c, z, at, (smap, last, found, w)). (c, z, at, (smap, last, found, (only (image_of s r o c z smap last)).0 w))),
          λ (c, z, at, (smap, last, found, w)). (c, z, at, (smap, last, found, (only (image_of s r o c z smap last)).1 w)),
        ))

    pub draw_five : (draw_number s b o st p ≡ 5) ↔ ((number_of (play.call_test s b) ≡ 5) ⊎ AtPicture s b o st p (λ i. TableWrong s i))
    draw_five = pictures 5 (λ i. TableWrong s i) (omega arith) (omega arith) (λ i. picture.only-five s i)

    pub draw_six : (draw_number s b o st p ≡ 6) ↔ ((number_of (play.call_test s b) ≡ 6) ⊎ AtPicture s b o st p (λ i. AtStrip s i UnknownCode))
    draw_six = pictures 6 (λ i. AtStrip s i UnknownCode) (omega arith) (omega arith) (λ i. picture.only-six s i)

    pub draw_seven : (draw_number s b o st p ≡ 7) ↔ ((number_of (play.call_test s b) ≡ 7) ⊎ AtPicture s b o st p (λ i. AtStrip s i BytesRunOut))
    draw_seven = pictures 7 (λ i. AtStrip s i BytesRunOut) (omega arith) (omega arith) (λ i. picture.only-seven s i)

    pub draw_eight : (draw_number s b o st p ≡ 8) ↔ ((number_of (play.call_test s b) ≡ 8) ⊎ AtPicture s b o st p (λ i. AtStrip s i PassesEnd))
    draw_eight = pictures 8 (λ i. AtStrip s i PassesEnd) (omega arith) (omega arith) (λ i. picture.only-eight s i)

    pub draw_zero : (draw_number s b o st p ≡ 0) ↔ AtPicture s b o st p (λ i. AllPass s i)
    draw_zero =
        zero draw
        (λ r ss. (length ss.history < most_steps) × ((drawable s o st ≡ true) × (place_allowed s r ss o st p ≡ true) × images.Passes s r o st))
        (λ r.
        tried_image r 0 (omega arith)
        then (
          (λ (few, (shows, (placed, e))). (few, (shows, placed, (images.image_zero s r o st shows).0 e))),
          λ (few, (shows, placed, q)). (few, (shows, (placed, (images.image_zero s r o st shows).1 q))),
        ))

    -- 1, 3 and 4 are the room's alone
    pub draw_room : (n : ℕ) → (n ≡ 1) ⊎ ((n ≡ 3) ⊎ (n ≡ 4)) → (draw_number s b o st p ≡ n) ↔ (number_of (play.call_test s b) ≡ n)
    draw_room n which = of_room draw n (in_range which).0 (in_range which).1 (λ r e. none r e which)
      where
        in_range : (n ≡ 1) ⊎ ((n ≡ 3) ⊎ (n ≡ 4)) → (1 ≤ n) × (n ≤ 8)
        in_range (inl e) = (omega arith, omega arith)
        in_range (inr (inl e)) = (omega arith, omega arith)
        in_range (inr (inr e)) = (omega arith, omega arith)

        apart : (n ≡ 1) ⊎ ((n ≡ 3) ⊎ (n ≡ 4)) → (n ≡ 2) ⊎ ((5 ≤ n) × (n ≤ 8)) → ⊥
        apart (inl e) (inl f) = omega arith
        apart (inl e) (inr f) = omega (arith, f.0)
        apart (inr (inl e)) (inl f) = omega arith
        apart (inr (inl e)) (inr f) = omega (arith, f.0)
        apart (inr (inr e)) (inl f) = omega arith
        apart (inr (inr e)) (inr f) = omega (arith, f.0)

        none : (r : Room) → tried_number draw r ≡ n → (n ≡ 1) ⊎ ((n ≡ 3) ⊎ (n ≡ 4)) → ⊥
        none r e w = apart w (images.fault_numbers s r o st n (in_range w).0 ((tried_image r n (in_range w).1).0 e).1.1.1)

  -- ---- hides

  module _ (o : ℕ) where
    abbrev hide : Call
    hide = Make (Hide o)

    hidden_ten : (r : Room) → (tried_number hide r ≡ 10) ↔ (most_steps ≤ length (session_in s r b).history)
    unfolding tried
    hidden_ten r = steps.hide_ten (decoded s r) _ _ o

    hidden_eleven : (r : Room) → (tried_number hide r ≡ 11)
        ↔ ((length (session_in s r b).history < most_steps) × (some (λ e. eqb e.object o) (session_in s r b).shown ≡ false))
    unfolding tried scene_of
    hidden_eleven r = steps.hide_eleven (decoded s r) (length (session_in s r b).history) (scene_of (decoded s r) (session_in s r b)) o

    hidden_few : (r : Room) (m : ℕ) → 1 ≤ m → m ≤ 9 → tried_number hide r ≡ m → ⊥
    unfolding tried
    hidden_few r m some le e = steps.hide_few (decoded s r) _ _ o m some le e

    hidden_zero : (r : Room) → (tried_number hide r ≡ 0)
        ↔ ((length (session_in s r b).history < most_steps) × (some (λ e. eqb e.object o) (session_in s r b).shown ≡ true))
    unfolding tried scene_of
    hidden_zero r = steps.hide_zero (decoded s r) (length (session_in s r b).history) (scene_of (decoded s r) (session_in s r b)) o

    pub hide_zero : (play.number_of s b hide ≡ 0) ↔ AtStep s b (λ r ss. some (λ e. eqb e.object o) ss.shown ≡ true)
    hide_zero = zero hide (λ r ss. (length ss.history < most_steps) × (some (λ e. eqb e.object o) ss.shown ≡ true)) hidden_zero

    pub hidden_most : (r : Room) → tried_number hide r ≤ 11
    unfolding tried
    hidden_most r = steps.hide_most (decoded s r) _ _ o

    pub hide_nine : (play.number_of s b hide ≡ 9) ↔ ((r : Room) × (play.call_test s b ≡ Ok r) × (right r ≡ false))
    hide_nine = nine hide (λ r e. hidden_few r 9 (omega arith) (omega arith) e)

    pub hide_ten : (play.number_of s b hide ≡ 10) ↔ AtSession s b (λ r ss. most_steps ≤ length ss.history)
    hide_ten = after-nine hide 10 (λ r ss. most_steps ≤ length ss.history) (omega arith) hidden_ten

    pub hide_eleven : (play.number_of s b hide ≡ 11) ↔ AtStep s b (λ r ss. some (λ e. eqb e.object o) ss.shown ≡ false)
    hide_eleven =
        after-nine hide 11 (λ r ss. (length ss.history < most_steps) × (some (λ e. eqb e.object o) ss.shown ≡ false)) (omega arith) hidden_eleven

    pub hide_room : (n : ℕ) → 1 ≤ n → n ≤ 8 → (play.number_of s b hide ≡ n) ↔ (number_of (play.call_test s b) ≡ n)
    hide_room n some le = of_room hide n some le (λ r e. hidden_few r n some (omega arith) e)

  -- ---- take-backs

  taken : (r : Room) → (tried_number TakeBack r ≡ 13) ↔ ((session_in s r b).history ≡ [])
  unfolding tried
  taken r = undone (decoded s r) (session_in s r b).history (held r)

  taken_zero : (r : Room) → (tried_number TakeBack r ≡ 0) ↔ ((session_in s r b).history ≡ [] → ⊥)
  unfolding tried
  taken_zero r = undone-zero (decoded s r) (session_in s r b).history (held r)

  taken_number : (r : Room) → (tried_number TakeBack r ≡ 0) ⊎ (tried_number TakeBack r ≡ 13)
  unfolding tried
  taken_number r = undone-number (decoded s r) (session_in s r b).history (held r)

  taken_few : (r : Room) (m : ℕ) → 1 ≤ m → m ≤ 12 → tried_number TakeBack r ≡ m → ⊥
  taken_few r m some le e = go (taken_number r)
    where
      go : (tried_number TakeBack r ≡ 0) ⊎ (tried_number TakeBack r ≡ 13) → ⊥
      go (inl f) = let z : m ≡ 0 = sym e ∙ f in omega arith
      go (inr f) = let z : m ≡ 13 = sym e ∙ f in omega arith

  pub take_back_nine : (play.number_of s b TakeBack ≡ 9) ↔ ((r : Room) × (play.call_test s b ≡ Ok r) × (right r ≡ false))
  take_back_nine = nine TakeBack (λ r e. taken_few r 9 (omega arith) (omega arith) e)

  pub thirteen : (play.number_of s b TakeBack ≡ 13) ↔ AtSession s b (λ r ss. ss.history ≡ [])
  thirteen = after-nine TakeBack 13 (λ r ss. ss.history ≡ []) (omega arith) taken

  pub take_back_zero : (play.number_of s b TakeBack ≡ 0) ↔ AtSession s b (λ r ss. ss.history ≡ [] → ⊥)
  take_back_zero = zero TakeBack (λ r ss. ss.history ≡ [] → ⊥) taken_zero

  pub take_back_room : (n : ℕ) → 1 ≤ n → n ≤ 8 → (play.number_of s b TakeBack ≡ n) ↔ (number_of (play.call_test s b) ≡ n)
  take_back_room n some le = of_room TakeBack n some le (λ r e. taken_few r n some (omega arith) e)

  -- ---- every call

  pub call-nine : (c : Call) → (play.number_of s b c ≡ 9) ↔ ((r : Room) × (play.call_test s b ≡ Ok r) × (right r ≡ false))
  call-nine (Make (Draw o st p)) = draw_nine o st p
  call-nine (Make (Hide o)) = hide_nine o
  call-nine TakeBack = take_back_nine

  pub step_ten : (st : Step) → (play.number_of s b (Make st) ≡ 10) ↔ AtSession s b (λ r ss. most_steps ≤ length ss.history)
  step_ten (Draw o st p) = draw_ten o st p
  step_ten (Hide o) = hide_ten o

  pub room-first : (c : Call) (n : ℕ) → 1 ≤ n → number_of (play.call_test s b) ≡ n → play.number_of s b c ≡ n
  room-first c n some e = (calls.early lent s (play.number_by s b c) (λ m. refl) n (λ r. play.number_by s b c (Ok r) ≡ n) some (λ r f. same)).1 (inl e)

  -- ---- which numbers there are at all

  all_numbers : (c : Call) (P : ℕ → Type 0) → ((n : ℕ) → n ≤ 9 → P n) → ((r : Room) → P (tried_number c r)) → P (play.number_of s b c)
  all_numbers c P few own =
      calls.numbers lent s (play.number_by s b c) (λ n. refl) P (λ n le. few n (omega arith))
      (λ r e. subst P (sym (called-number (decoded s r) (held r) c)) (go (right r) (tried_number c r) (own r)))
    where
      go : (q : Bool) (n : ℕ) → P n → P (cond q n 9)
      go true n p = p
      go false n p = few 9 (omega arith)

  pub draw_numbers : (o st : ℕ) (p : Place) → play.number_of s b (Make (Draw o st p)) ≤ 12
  draw_numbers o st p =
      all_numbers (Make (Draw o st p)) (λ n. n ≤ 12) (λ n le. omega arith) (λ r. go (tried_number (Make (Draw o st p)) r) (tried-few o st p r _ refl))
    where
      go : (m : ℕ) → (m ≤ 8) ⊎ ((m ≡ 10) ⊎ ((m ≡ 11) ⊎ (m ≡ 12))) → m ≤ 12
      go m (inl e) = omega arith
      go m (inr (inl e)) = omega arith
      go m (inr (inr (inl e))) = omega arith
      go m (inr (inr (inr e))) = omega arith

  pub hide_numbers : (o : ℕ) → play.number_of s b (Make (Hide o)) ≤ 11
  hide_numbers o = all_numbers (Make (Hide o)) (λ n. n ≤ 11) (λ n le. omega arith) (λ r. hidden_most o r)

  pub take_back_numbers : (play.number_of s b TakeBack ≤ 9) ⊎ (play.number_of s b TakeBack ≡ 13)
  take_back_numbers =
      all_numbers TakeBack (λ n. (n ≤ 9) ⊎ (n ≡ 13)) (λ n le. inl le) (λ r. go (tried_number TakeBack r) (taken_number r))
    where
      go : (m : ℕ) → (m ≡ 0) ⊎ (m ≡ 13) → (m ≤ 9) ⊎ (m ≡ 13)
      go m (inl e) = inl (omega arith)
      go m (inr e) = inr e
