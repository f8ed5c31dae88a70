-- Laws of plans: how the code's answers are the definitions'. Assumes nothing.
use Rattle.std.proofs.Common.{ℕ, zero, suc, ◌-◌, ◌<◌, ◌≤◌, ◌≡◌, refl, sym, ap, ap₂, subst, ◌∙◌, Bool, true, false, cond, List, ◌∷◌, eqb, get_or, length, arith, eq-eqb, ne_eqb, eqb-true}
use Rattle.scene.specs.declared.Call.{Call}
use Rattle.scene.specs.declared.Call.TheVariants.{Make, TakeBack}
use Rattle.scene.specs.declared.Entry.{Entry}
use Rattle.scene.specs.declared.Place.TheVariants.{Last, Strip}
use Rattle.scene.specs.declared.Step.{Step}
use Rattle.scene.specs.declared.Step.TheVariants.{Draw, Hide}
use Rattle.scene.specs.Painting.{Room}
use Rattle.scene.specs.Steps.{Scene, applied, refusal, replay, replays, most_steps}
use Rattle.scene.specs.Session.{right_for, scene_of}
use Rattle.stored.specs.declared.Shown.{Shown}
use Rattle.replay.specs.declared.Size.{Size}
use Rattle.replay.specs.Tables.{room_of_tables, Sizes}
use Rattle.stored.specs.Bytes.{down, step_at, steps_of, session_of, marks_from, same_marks, All, Small, SmallEntry, Storable, entries}
use Rattle.replay.specs.Places.{scene_in}
use Rattle.replay.specs.Replay.{Plan, no, ok, judged, plan_of, Replayed, base_of}
use Rattle.session.specs.Plans.{valid_shown, planned, undone, LastPlaces}
use Rattle.stored.proofs.Lists.{all_map, some-all}
use Rattle.replay.proofs.PlacesLaws.{there_small, accepted_near}
use Rattle.replay.proofs.JudgedLaws.{plan-no, plan-ok, plan-means, no_one}
use Rattle.stored.proofs.BytesLaws.{length-down}
use Rattle.stored.specs.Layout.{shown_from}
use Rattle.replay.proofs.GroundLaws.{There, session_base}
use Rattle.replay.proofs.ReplayLaws.{accepted-few, accepted_draw, accepted_hide, applied_there, all_there, replays_older, replays-few, right_is}
use Rattle.replay.proofs.ReplayLaws.{right-shown, right-scene}

-- ---- the list of a session that is right

module _ (room : Room) (l : List ℕ) (s r : Shown) (n : ℕ) (en : n ≡ get_or l 0 0) where
  wrong : right_for room (session_of room l) ≡ false → r.refusal ≡ 9 → plan_of r ≡ valid_shown room l
  unfolding valid_shown
  wrong f e = rw f (plan-no r 9 e (λ q. omega arith))

  not_replayed : replays room (base_of room l) (steps_of l) ≡ false → right_for room (session_of room l) ≡ false
  not_replayed f = right_is room l ∙ rw f

  -- the history has more than 64 steps
  pub valid_long : most_steps < n → r.refusal ≡ 9 → plan_of r ≡ valid_shown room l
  valid_long h e = wrong (not_replayed (go (replays room (base_of room l) (steps_of l)) refl)) e
    where
      go : (t : Bool) → replays room (base_of room l) (steps_of l) ≡ t → t ≡ false
      go true q = absurd (omega (arith, replays-few room (base_of room l) (steps_of l) q, length-down (step_at l) (get_or l 0 0)))
      go false q = refl

  module _ (places : List ℕ) (R : Replayed room (base_of room l) (down (step_at l) n) places s) where
    R' : Replayed room (base_of room l) (steps_of l) places s
    R' = subst (λ (k : ℕ). Replayed room (base_of room l) (down (step_at l) k) places s) en R

    pub valid_last : s.refusal ≡ 0 → LastPlaces room l (get_or l 0 0) places
    valid_last = R'.last

    -- a step of it is refused
    pub valid_no : (s.refusal ≡ 0 → ⊥) → r.refusal ≡ 9 → plan_of r ≡ valid_shown room l
    valid_no k e = wrong (not_replayed (sym R'.right ∙ ne_eqb s.refusal 0 k)) e

    right_then : s.refusal ≡ 0 → (t : Bool) → t ≡ same_marks (marks_from l shown_from 0 (get_or l 1 0)) (entries s) → right_for room (session_of room l) ≡ t
    right_then k t f =
        right_is room l
        ∙ rw (sym R'.right ∙ eq-eqb s.refusal 0 k, ← R'.list k) (sym f)

    -- it replays to another list
    pub valid_off : s.refusal ≡ 0 → false ≡ same_marks (marks_from l shown_from 0 (get_or l 1 0)) (entries s) → r.refusal ≡ 9 → plan_of r ≡ valid_shown room l
    valid_off k f e = wrong (right_then k false f) e

    pub valid_yes : s.refusal ≡ 0 → true ≡ same_marks (marks_from l shown_from 0 (get_or l 1 0)) (entries s) → plan_of s ≡ valid_shown room l
    unfolding valid_shown
    valid_yes k f =
        let t = right_then k true f in
        rw t (plan-ok s (session_of room l).shown k (R'.list k ∙ sym (right-shown room l t).1))

-- ---- a draw or a hide, and a take-back, of such a session

judged_full : (room : Room) (n : ℕ) (sc : Scene) (st : Step) → n ≡ most_steps → judged room n sc st ≡ no 10
unfolding judged refusal
judged_full room n sc (Draw o s p) e = rw e
judged_full room n sc (Hide o) e = rw e

module _ (room : Room) (l : List ℕ) (s : Shown) (e : plan_of s ≡ valid_shown room l) where
  right_if : (b : Bool) → eqb s.refusal 0 ≡ b → right_for room (session_of room l) ≡ b
  unfolding valid_shown
  right_if b q = sym (plan-means s (right_for room (session_of room l)) 9 (session_of room l).shown e).0 ∙ q

  pub list_is : s.refusal ≡ 0 → entries s ≡ (session_of room l).shown
  unfolding valid_shown
  list_is z = (plan-means s (right_for room (session_of room l)) 9 (session_of room l).shown e).1 z

  pub list-zero : right_for room (session_of room l) ≡ true → s.refusal ≡ 0
  unfolding valid_shown
  list-zero h = eqb-true s.refusal 0 ((plan-means s (right_for room (session_of room l)) 9 (session_of room l).shown e).0 ∙ h)

  -- the session is not right
  nine : (s.refusal ≡ 0 → ⊥) → plan_of s ≡ no 9
  unfolding valid_shown
  nine h = e ∙ rw (right_if false (ne_eqb s.refusal 0 h))

  pub plan_wrong : (c : Call) → (s.refusal ≡ 0 → ⊥) → plan_of s ≡ planned room l c
  unfolding planned
  plan_wrong c h = nine h ∙ rw (right_if false (ne_eqb s.refusal 0 h))

  module _ (z : s.refusal ≡ 0) (r : Shown) (n : ℕ) (en : n ≡ get_or l 0 0) where
    right : right_for room (session_of room l) ≡ true
    right = right_if true (eq-eqb s.refusal 0 z)

    -- the history has no room for a step
    pub plan_full : (st : Step) → n ≡ most_steps → r.refusal ≡ 10 → plan_of r ≡ planned room l (Make st)
    unfolding planned session_of
    plan_full st f g =
        plan-no r 10 g (λ q. omega arith)
        ∙ sym (rw right (judged_full room (length (steps_of l)) (scene_of room (session_of room l)) st (length-down (step_at l) (get_or l 0 0) ∙ sym en ∙ f)))

    pub plan_yes : (places : List ℕ) → LastPlaces room l (get_or l 0 0) places → (st : Step) → plan_of r ≡ judged room n (scene_in places (entries s)) st
        → plan_of r ≡ planned room l (Make st)
    unfolding planned scene_of session_of
    plan_yes places k st f =
        let same : scene_in places (entries s) ≡ scene_of room (session_of room l) = λ i. record { shown = list_is z i; last = k i } in
        f
        ∙ ap₂ (λ (k : ℕ) (c : Scene). judged room k c st) (en ∙ sym (length-down (step_at l) (get_or l 0 0))) same
        ∙ sym (rw right)

    pub back_none : n ≡ 0 → r.refusal ≡ 13 → plan_of r ≡ planned room l TakeBack
    unfolding planned session_of undone
    back_none f g =
        plan-no r 13 g (λ q. omega arith)
        ∙ sym (rw right (ap (undone room (base_of room l)) (ap (down (step_at l)) (sym en ∙ f))))

    newest : (n ≡ 0 → ⊥) → steps_of l ≡ step_at l (n - 1) ∷ down (step_at l) (n - 1)
    newest h = ap (down (step_at l)) (sym en ∙ count_down n h)
      where
        count_down : (k : ℕ) → (k ≡ 0 → ⊥) → k ≡ suc (k - 1)
        count_down zero h = absurd (h refl)
        count_down (suc k) h = omega arith

    module _ (h : n ≡ 0 → ⊥) (places : List ℕ) (R : Replayed room (base_of room l) (down (step_at l) (n - 1)) places r) where
      older : replays room (base_of room l) (down (step_at l) (n - 1)) ≡ true
      older =
          (replays_older room (base_of room l) (step_at l (n - 1)) (down (step_at l) (n - 1))
          (subst (λ (k : List Step). replays room (base_of room l) k ≡ true) (newest h) (right-shown room l right).0)).0

      accepted : r.refusal ≡ 0
      accepted = eqb-true r.refusal 0 (R.right ∙ older)

      pub back_yes : plan_of r ≡ planned room l TakeBack
      unfolding planned session_of undone
      back_yes =
          plan-ok r (replay room (base_of room l) (down (step_at l) (n - 1))).shown accepted (R.list accepted)
          ∙ sym (rw right (ap (undone room (base_of room l)) (newest h)))

      pub back_last : r.refusal ≡ 0 → LastPlaces room l (get_or l 0 0 - 1) places
      back_last y = R.last y ∙ ap (λ (k : ℕ). (replay room (base_of room l) (down (step_at l) (k - 1))).last) en

-- ---- what an accepted plan may store

pub plan-and : (r : Shown) (b : Bool) (X : Plan) (k : ℕ) → plan_of r ≡ cond b X (no k) → r.refusal ≡ 0 → (b ≡ true) × (plan_of r ≡ X)
plan-and r true X k e q = (refl, e)
plan-and r false X k e q =
    let f : ok (entries r) ≡ no k = sym (plan-ok r (entries r) q refl) ∙ e in
    let z : ◌≡◌ {A = ℕ} 0 1 = cc in
    absurd (no_one z)

undone-means : (room : Room) (g : Scene) (l : List ℕ) (r : Shown) → r.refusal ≡ 0 → (n : ℕ) → plan_of r ≡ undone room g (down (step_at l) n)
    → (down (step_at l) n ≡ step_at l (n - 1) ∷ down (step_at l) (n - 1)) × (entries r ≡ (replay room g (down (step_at l) (n - 1))).shown)
unfolding undone
undone-means room g l r q zero f =
    let g : ok (entries r) ≡ no 13 = sym (plan-ok r (entries r) q refl) ∙ f in
    let z : ◌≡◌ {A = ℕ} 0 1 = cc in
    absurd (no_one z)
undone-means room g l r q (suc n) f =
    let one : suc n - 1 ≡ n = omega arith in
    rw one (refl, (plan-means r true 0 (replay room g (down (step_at l) n)).shown f).1 q)

pub accepted-plan : (room : Room) (l : List ℕ) (st : Step) (r : Shown) → plan_of r ≡ planned room l (Make st) → r.refusal ≡ 0
    → (right_for room (session_of room l) ≡ true) × (refusal room (length (steps_of l)) (replay room (base_of room l) (steps_of l)) st ≡ 0)
    × (entries r ≡ (applied room (replay room (base_of room l) (steps_of l)) st).shown)
unfolding planned judged session_of
accepted-plan room l st r e q =
    let a = plan-and r (right_for room (session_of room l)) (judged room (length (steps_of l)) (scene_of room (session_of room l)) st) 9 e q in
    let n = length (steps_of l) in
    let sc = replay room (base_of room l) (steps_of l) in
    let k = refusal room n sc st in
    let f : plan_of r ≡ cond (eqb k 0) (ok (applied room sc st).shown) (no k) =
    a.1 ∙ ap (λ (c : Scene). judged room n c st) (right-scene room l a.0) in
    let m = plan-means r (eqb k 0) k (applied room sc st).shown f in
    (a.0, eqb-true k 0 (sym m.0 ∙ eq-eqb r.refusal 0 q), m.1 q)

-- a take-back that is accepted has a newest step, and leaves the list of the others
pub accepted_back : (room : Room) (l : List ℕ) (r : Shown) → plan_of r ≡ planned room l TakeBack → r.refusal ≡ 0
    → (right_for room (session_of room l) ≡ true) × (steps_of l ≡ step_at l (get_or l 0 0 - 1) ∷ down (step_at l) (get_or l 0 0 - 1))
    × (entries r ≡ (replay room (base_of room l) (down (step_at l) (get_or l 0 0 - 1))).shown)
unfolding planned session_of
accepted_back room l r e q =
    let a = plan-and r (right_for room (session_of room l)) (undone room (base_of room l) (steps_of l)) 9 e q in
    let b = undone-means room (base_of room l) l r q (get_or l 0 0) a.1 in
    (a.0, b.0, b.1)

module _ (objects verdicts : List ℕ) (size : Size) (z : Sizes size) where
  abbrev T : Room
  T = room_of_tables objects verdicts size

  pub all_small : (es : List Entry) → All (There T) es → All SmallEntry es
  all_small es a = all_map (There T) SmallEntry es (λ e h. there_small objects verdicts size z e.object e.state h) a

  step_small : (n : ℕ) (sc : Scene) (st : Step) → All (There T) sc.shown → refusal T n sc st ≡ 0 → Small st
  step_small n sc (Hide o) a e =
      some-all (There T) (λ x. eqb x.object o) (o ≤ 128) sc.shown
      (λ x h b. subst (λ (k : ℕ). k ≤ 128) (eqb-true x.object o h) (there_small objects verdicts size z x.object x.state b).0) a
      (accepted_hide T n sc o e)
  step_small n sc (Draw o s Last) a e = there_small objects verdicts size z o s (accepted_draw T n sc o s Last e).0
  step_small n sc (Draw o s (Strip x y)) a e =
      let t = there_small objects verdicts size z o s (accepted_draw T n sc o s (Strip x y) e).0 in
      let near = accepted_near objects verdicts size z n sc (Draw o s (Strip x y)) e in
      (t.0, t.1, near.1.0, near.1.1)

  -- an accepted call can be stored
  pub planned-small : (l : List ℕ) (c : Call) (r : Shown) → plan_of r ≡ planned T l c → r.refusal ≡ 0 → Storable l c × All SmallEntry (entries r)
  planned-small l (Make st) r e q =
      let a = accepted-plan T l st r e q in
      let t = all_there T (base_of T l) (session_base T l) (steps_of l) (right-shown T l a.0).0 in
      let few = accepted-few T (length (steps_of l)) (replay T (base_of T l) (steps_of l)) st a.1 in
      let n = length-down (step_at l) (get_or l 0 0) in
      let es = (applied T (replay T (base_of T l) (steps_of l)) st).shown in (
        (omega arith, step_small (length (steps_of l)) (replay T (base_of T l) (steps_of l)) st t a.1),
        subst (All SmallEntry) (sym a.2) (all_small es (applied_there T (length (steps_of l)) (replay T (base_of T l) (steps_of l)) st a.1 t)),
      )
  planned-small l TakeBack r e q =
      let a = accepted_back T l r e q in
      let h = down (step_at l) (get_or l 0 0 - 1) in
      let n = length-down (step_at l) (get_or l 0 0) in
      let some = ap length a.1 in
      let g = base_of T l in
      let older = replays_older T g (step_at l (get_or l 0 0 - 1)) h (subst (λ (k : List Step). replays T g k ≡ true) a.1 (right-shown T l a.0).0) in
      (omega arith, subst (All SmallEntry) (sym a.2) (all_small (replay T g h).shown (all_there T g (session_base T l) h older.0)))
