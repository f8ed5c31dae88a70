-- Laws of a replay from a scene: every shown entry stands at its object's last place and is of an image that is there; no history of more than 64
-- steps replays. Assumes nothing.
use Rattle.std.proofs.Common.{ℕ, suc, ◌<◌, ◌≤◌, ◌≡◌, refl, sym, ap, ap₂, ◌∙◌, Bool, true, false, cond, not, ◌&&◌, List, [], ◌∷◌, eqb, leb, get_or, length, arith, eq-eqb, eqb-true, leb-false}
use mathlib.Core.Bool.{and-true}
use Rattle.number.proofs.BoolLaws.{both, neither}
use Rattle.scene.specs.declared.Entry.{Entry}
use Rattle.scene.specs.declared.Place.{Place}
use Rattle.scene.specs.declared.Step.{Step}
use Rattle.scene.specs.declared.Step.TheVariants.{Draw, Hide}
use Rattle.scene.specs.Painting.{Room}
use Rattle.scene.specs.Steps.{Scene, Spot, some, without, entry_of, same_box, clash, removes, adds, moves, applied, allowed, refusal, replay, replays}
use Rattle.scene.specs.Steps.{most_steps}
use Rattle.scene.specs.Session.{same_entry, same_list, right_for, scene_of}
use Rattle.scene.proofs.Reading.{right-means}
use Rattle.stored.specs.Bytes.{All, Mark, mark, placed, all_placed, is_mark, same_marks, marks_from, steps_of, session_of}
use Rattle.stored.proofs.Lists.{all_append, all_without}
use Rattle.replay.specs.Replay.{base_of}
use Rattle.replay.proofs.Lists.{append-nil}
use Rattle.replay.proofs.GroundLaws.{Standing, There, Ground, base_there, session_base}
use Rattle.stored.proofs.BytesLaws.{marks_of}
use Rattle.stored.specs.Layout.{shown_from}

-- ---- places

-- an entry of another object stays where it is
stands_on : (sc : Scene) (o s : ℕ) (p : Place) (e : Entry) → eqb e.object o ≡ false → Standing sc.last e → Standing (moves sc (Draw o s p)) e
unfolding moves
stands_on sc o s p e h a = rw (h) a

drawn_stands : (sc : Scene) (o s : ℕ) (p : Place) → Standing (moves sc (Draw o s p)) (entry_of sc o s p)
unfolding moves entry_of
drawn_stands sc o s p = rw (eq-eqb o o refl) (refl, refl)

module _ (room : Room) where
  applied_stands : (sc : Scene) (st : Step) → All (Standing sc.last) sc.shown → All (Standing (applied room sc st).last) (applied room sc st).shown
  unfolding applied adds removes clash entry_of moves
  applied_stands sc (Draw o s p) a =
      all_append (Standing (moves sc (Draw o s p))) (without (λ e. clash room e (entry_of sc o s p)) sc.shown) (entry_of sc o s p)
      (all_without (Standing sc.last) (Standing (moves sc (Draw o s p))) (λ e. clash room e (entry_of sc o s p)) sc.shown
      (λ e h b. stands_on sc o s p e (neither (eqb e.object o) (same_box room e (entry_of sc o s p)) h).0 b) a)
      (drawn_stands sc o s p)
  applied_stands sc (Hide o) a =
      rw (append-nil (without (λ e. eqb e.object o) sc.shown))
      (all_without (Standing sc.last) (Standing (moves sc (Hide o))) (λ e. eqb e.object o) sc.shown (λ e h b. hide_stands sc o e b) a)
    where
      hide_stands : (sc : Scene) (o : ℕ) (e : Entry) → Standing sc.last e → Standing (moves sc (Hide o)) e
      hide_stands sc o e b = b

  module _ (g : Scene) (G : Ground room g) where
    pub all_stand : (h : List Step) → All (Standing (replay room g h).last) (replay room g h).shown
    unfolding replay
    all_stand [] = G.stand
    all_stand (st ∷ h) = applied_stands (replay room g h) st (all_stand h)

-- the marks of entries that stand at their objects' last places say the whole entries
mark_entry : (last : ℕ → Spot) (o s : ℕ) (e : Entry) → Standing last e → is_mark (mark o s) e ≡ same_entry (placed last (mark o s)) e
unfolding same_entry
mark_entry last o s e a = go (eqb o e.object) refl
  where
    go : (t : Bool) → eqb o e.object ≡ t
        → (t && eqb s e.state) ≡ (t && eqb s e.state && eqb (last o).x e.x && eqb (last o).y e.y)
    go false q = refl
    go true q =
        let r = eqb-true o e.object q in
        rw (eq-eqb (last o).x e.x (ap (λ (k : ℕ). (last k).x) r ∙ sym a.0), eq-eqb (last o).y e.y (ap (λ (k : ℕ). (last k).y) r ∙ sym a.1))
        (sym (and-true (eqb s e.state && true) ∙ and-true (eqb s e.state)))

same-placed : (last : ℕ → Spot) (ms : List Mark) (es : List Entry) → All (Standing last) es → same_marks ms es ≡ same_list (all_placed last ms) es
unfolding same_marks same_list all_placed
same-placed last [] [] a = refl
same-placed last [] (e ∷ es) a = refl
same-placed last (m ∷ ms) [] a = refl
same-placed last (mark o s ∷ ms) (e ∷ es) a = ap₂ ◌&&◌ (mark_entry last o s e a.0) (same-placed last ms es a.1)

pub placed_back : (last : ℕ → Spot) (es : List Entry) → All (Standing last) es → all_placed last (marks_of es) ≡ es
unfolding all_placed
placed_back last [] a = refl
placed_back last (e ∷ es) a =
    ap₂ ◌∷◌ (λ i. record { object = e.object; state = e.state; x = sym a.0.0 i; y = sym a.0.1 i }) (placed_back last es a.1)

-- ---- an accepted step

never : (n : ℕ) → suc n ≡ 0 → ⊥
never n q = omega arith

not-ten : (t : Bool) (k : ℕ) → cond t 10 k ≡ 0 → (t ≡ false) × (k ≡ 0)
not-ten true k e = absurd (never 9 e)
not-ten false k e = (refl, e)

then : (t : Bool) (n k : ℕ) → cond (not t) (suc n) k ≡ 0 → (t ≡ true) × (k ≡ 0)
then true n k e = (refl, e)
then false n k e = absurd (never n e)

module _ (room : Room) where
  pub accepted-few : (n : ℕ) (sc : Scene) (st : Step) → refusal room n sc st ≡ 0 → n < most_steps
  unfolding refusal
  accepted-few n sc (Draw o s p) e = leb-false most_steps n (not-ten (leb most_steps n) _ e).0
  accepted-few n sc (Hide o) e = leb-false most_steps n (not-ten (leb most_steps n) _ e).0

  pub accepted_draw : (n : ℕ) (sc : Scene) (o s : ℕ) (p : Place) → refusal room n sc (Draw o s p) ≡ 0
      → (room.drawable o s ≡ true) × (allowed room (entry_of sc o s p) ≡ true)
  unfolding refusal
  accepted_draw n sc o s p e =
      let a = then (room.drawable o s) 10 _ (not-ten (leb most_steps n) _ e).1 in
      (a.0, (then (allowed room (entry_of sc o s p)) 11 _ a.1).0)

  pub accepted_hide : (n : ℕ) (sc : Scene) (o : ℕ) → refusal room n sc (Hide o) ≡ 0 → some (λ e. eqb e.object o) sc.shown ≡ true
  unfolding refusal
  accepted_hide n sc o e = go (some (λ e. eqb e.object o) sc.shown) (not-ten (leb most_steps n) _ e).1
    where
      go : (t : Bool) → ◌≡◌ {A = ℕ} (cond t 0 11) 0 → t ≡ true
      go true q = refl
      go false q = absurd (never 10 q)

  -- ---- a history that replays

  module _ (g : Scene) where
    pub replays_older : (st : Step) (h : List Step) → replays room g (st ∷ h) ≡ true
        → (replays room g h ≡ true) × (refusal room (length h) (replay room g h) st ≡ 0)
    unfolding replays
    replays_older st h e =
        let a = both (replays room g h) (eqb (refusal room (length h) (replay room g h) st) 0) e in
        (a.0, eqb-true (refusal room (length h) (replay room g h) st) 0 a.1)

    pub replays-few : (h : List Step) → replays room g h ≡ true → length h ≤ most_steps
    replays-few [] e = omega arith
    replays-few (st ∷ h) e = accepted-few (length h) (replay room g h) st (replays_older st h e).1

  -- every shown entry is of an image that is there
  pub applied_there : (n : ℕ) (sc : Scene) (st : Step) → refusal room n sc st ≡ 0 → All (There room) sc.shown
      → All (There room) (applied room sc st).shown
  unfolding applied adds entry_of
  applied_there n sc (Draw o s p) e a =
      all_append (There room) (without (removes room sc (Draw o s p)) sc.shown) (entry_of sc o s p)
      (all_without (There room) (There room) (removes room sc (Draw o s p)) sc.shown (λ f q b. b) a) (accepted_draw n sc o s p e).0
  applied_there n sc (Hide o) e a =
      rw (append-nil (without (removes room sc (Hide o)) sc.shown))
      (all_without (There room) (There room) (removes room sc (Hide o)) sc.shown (λ f q b. b) a)

  module _ (g : Scene) (G : Ground room g) where
    pub all_there : (h : List Step) → replays room g h ≡ true → All (There room) (replay room g h).shown
    unfolding replay
    all_there [] e = base_there room g G
    all_there (st ∷ h) e =
        let a = replays_older g st h e in
        applied_there (length h) (replay room g h) st a.1 (all_there h a.0)

  -- ---- the session that bytes hold

  pub right_is : (l : List ℕ)
      → right_for room (session_of room l)
      ≡ (replays room (base_of room l) (steps_of l) && same_marks (marks_from l shown_from 0 (get_or l 1 0)) (replay room (base_of room l) (steps_of l)).shown)
  unfolding right_for session_of
  right_is l =
      ap (λ (b : Bool). replays room (base_of room l) (steps_of l) && b)
      (sym (same-placed (replay room (base_of room l) (steps_of l)).last (marks_from l shown_from 0 (get_or l 1 0))
      (replay room (base_of room l) (steps_of l)).shown
      (all_stand room (base_of room l) (session_base room l) (steps_of l))))

  pub right-shown : (l : List ℕ) → right_for room (session_of room l) ≡ true
      → (replays room (base_of room l) (steps_of l) ≡ true) × ((session_of room l).shown ≡ (replay room (base_of room l) (steps_of l)).shown)
  unfolding session_of
  right-shown l e = right-means room (session_of room l) e

  pub right-scene : (l : List ℕ) → right_for room (session_of room l) ≡ true → scene_of room (session_of room l) ≡ replay room (base_of room l) (steps_of l)
  unfolding scene_of session_of
  right-scene l e = λ i. record { shown = (right-shown l e).1 i; last = (replay room (base_of room l) (steps_of l)).last }
