-- Laws of one step on a shown list, and of a replay that is one step longer. Assumes nothing.
use Rattle.std.proofs.Common.{ℕ, ◌+◌, ◌<◌, ◌≤◌, ◌≡◌, refl, sym, ap, ap₂, ◌∙◌, Bool, true, false, cond, not, List, [], ◌∷◌, ◌++◌, eqb, length, arith, eq-eqb, ne_eqb, eqb-true}
use borrow.Author.Tests.{eqb-false, lt-leb}
use Rattle.scene.specs.declared.Entry.{Entry}
use Rattle.scene.specs.declared.Place.{Place}
use Rattle.scene.specs.declared.Step.{Step}
use Rattle.scene.specs.declared.Step.TheVariants.{Draw, Hide}
use Rattle.scene.specs.Painting.{Room}
use Rattle.scene.specs.Steps.{Scene, some, without, spot_of, entry_of, clash, removes, adds, moves, applied, allowed, refusal, replay, replays, most_steps}
use Rattle.stored.specs.declared.Shown.{Shown}
use Rattle.replay.specs.declared.Spot.{Spot}
use Rattle.replay.specs.declared.Size.{Size}
use Rattle.replay.specs.Tables.{verdict_of, room_of_tables}
use Rattle.replay.specs.Places.{places_in, scene_in, IsAt}
use Rattle.stored.specs.Bytes.{entries}
use Rattle.replay.specs.Replay.{no, ok, goes, entry_at, judged, plan_of, Replayed, drawn_on, hidden_on}
use Rattle.replay.proofs.Lists.{append-nil, or_false, without-same}

-- ---- one step

pub plan-no : (r : Shown) (k : ℕ) → r.refusal ≡ k → (k ≡ 0 → ⊥) → plan_of r ≡ no k
plan-no r k e h = rw (e, ne_eqb k 0 h)

pub plan-ok : (r : Shown) (es : List Entry) → r.refusal ≡ 0 → entries r ≡ es → plan_of r ≡ ok es
plan-ok r es e f = rw (e, f)

draw_plan : (b a : Bool) (v : ℕ) (es : List Entry)
    → (let k = cond (not (not b)) 11 (cond (not a) 12 v) in cond (eqb k 0) (ok es) (no k)) ≡ cond b (no 11) (cond a (cond (eqb v 0) (ok es) (no v)) (no 12))
draw_plan true a v es = refl
draw_plan false true v es = refl
draw_plan false false v es = refl

hide_plan : (b : Bool) (es : List Entry) → (let k = cond b 0 11 in cond (eqb k 0) (ok es) (no k)) ≡ cond b (ok es) (no 11)
hide_plan true es = refl
hide_plan false es = refl

module _ (objects verdicts : List ℕ) (size : Size) (n : ℕ) (few : n < most_steps) (sc : Scene) where
  pub judged_draw : (o s : ℕ) (p : Place)
      → judged (room_of_tables objects verdicts size) n sc (Draw o s p)
      ≡ cond (eqb (verdict_of verdicts size.count o s) 11) (no 11)
      (drawn_on (room_of_tables objects verdicts size) (verdict_of verdicts size.count o s) (entry_of sc o s p) sc.shown)
  unfolding judged refusal applied adds removes room_of_tables
  judged_draw o s p =
      rw (lt-leb most_steps n few)
      (draw_plan (eqb (verdict_of verdicts size.count o s) 11) (allowed (room_of_tables objects verdicts size) (entry_of sc o s p))
      (verdict_of verdicts size.count o s)
      (without (λ f. clash (room_of_tables objects verdicts size) f (entry_of sc o s p)) sc.shown ++ entry_of sc o s p ∷ []))

  pub judged_hide : (o : ℕ) → judged (room_of_tables objects verdicts size) n sc (Hide o) ≡ hidden_on o sc.shown
  unfolding judged refusal applied adds removes
  judged_hide o =
      rw (lt-leb most_steps n few, append-nil (without (λ e. eqb e.object o) sc.shown))
      (hide_plan (some (λ e. eqb e.object o) sc.shown) (without (λ e. eqb e.object o) sc.shown))

  pub step_none : (o s : ℕ) (p : Place) (w : ℕ) (r : Shown) → w ≡ verdict_of verdicts size.count o s → w ≡ 11 → r.refusal ≡ 11
      → plan_of r ≡ judged (room_of_tables objects verdicts size) n sc (Draw o s p)
  step_none o s p w r e f g =
      plan-no r 11 g (λ q. omega arith)
      ∙ sym (judged_draw o s p ∙ rw (sym e ∙ f))

  pub step_draw : (o s : ℕ) (p : Place) (w : ℕ) (at : Spot) (r : Shown) → w ≡ verdict_of verdicts size.count o s → (w ≡ 11 → ⊥)
      → IsAt at (spot_of sc o p)
      → plan_of r ≡ drawn_on (room_of_tables objects verdicts size) w (entry_at o s at) sc.shown
      → plan_of r ≡ judged (room_of_tables objects verdicts size) n sc (Draw o s p)
  unfolding entry_of
  step_draw o s p w at r e f a g =
      let E : entry_at o s at ≡ entry_of sc o s p =
      λ i. record { object = o; state = s; x = a.x i; y = a.y i } in
      g
      ∙ ap₂ (λ (k : ℕ) (x : Entry). drawn_on (room_of_tables objects verdicts size) k x sc.shown) e E
      ∙ sym (judged_draw o s p ∙ rw (ne_eqb (verdict_of verdicts size.count o s) 11 (λ q. f (e ∙ q))))

-- ---- the parts of a draw, and a hide

-- a place is allowed or not, as a test of it has said
pub allowed_is : (room : Room) (e : Entry) (b t : Bool) → b ≡ allowed room e → b ≡ t → allowed room e ≡ t
allowed_is room e b t p q = sym p ∙ q

module _ (room : Room) (r : Shown) (e : Entry) (es : List Entry) where
  module _ (x : Entry) (is : x ≡ e) where
    pub draw_done : allowed room e ≡ true → (k : ℕ) → k ≡ 0 → r.refusal ≡ 0 → (fs : List Entry) → entries r ≡ fs ++ x ∷ []
        → fs ≡ without (goes room true x) es → plan_of r ≡ drawn_on room k e es
    unfolding clash
    draw_done h k g f fs a b =
        rw (h, eq-eqb k 0 g) (plan-ok r (without (λ y. clash room y e) es ++ e ∷ []) f
        (a ∙ ap (λ (l : List Entry). l ++ x ∷ []) b ∙ ap (λ (y : Entry). without (goes room true y) es ++ y ∷ []) is))

    pub hide_done : some (λ y. eqb y.object e.object) es ≡ true → r.refusal ≡ 0 → entries r ≡ without (goes room false x) es
        → plan_of r ≡ hidden_on e.object es
    hide_done h f a =
        rw h (plan-ok r (without (λ y. eqb y.object e.object) es) f
        (a ∙ ap (λ (y : Entry). without (goes room false y) es) is
        ∙ without-same (goes room false e) (λ y. eqb y.object e.object) es (λ y. or_false (eqb y.object e.object))))

-- ---- a replay

pub no_one : ◌≡◌ {A = ℕ} 0 1 → ⊥
no_one q = omega arith

pub plan-means : (r : Shown) (b : Bool) (k : ℕ) (es : List Entry) → plan_of r ≡ cond b (ok es) (no k)
    → (eqb r.refusal 0 ≡ b) × (r.refusal ≡ 0 → entries r ≡ es)
plan-means r b k es e = go (eqb r.refusal 0) b refl e
  where
    go : (a b : Bool) → eqb r.refusal 0 ≡ a → cond a (ok (entries r)) (no r.refusal) ≡ cond b (ok es) (no k)
        → (a ≡ b) × (r.refusal ≡ 0 → entries r ≡ es)
    go true true q f = (refl, λ z. cc)
    go true false q f = let z : ◌≡◌ {A = ℕ} 0 1 = cc in absurd (no_one z)
    go false true q f = let z : ◌≡◌ {A = ℕ} 0 1 = cc in absurd (no_one z)
    go false false q f = (refl, λ z. absurd (eqb-false r.refusal 0 q z))

-- a list that a plan leaves is of a step that is accepted
pub judged-zero : (room : Room) (n : ℕ) (sc : Scene) (st : Step) (r : Shown) → plan_of r ≡ judged room n sc st → r.refusal ≡ 0 → refusal room n sc st ≡ 0
unfolding judged
judged-zero room n sc st r e z =
    let q = refusal room n sc st in
    eqb-true q 0 (sym (plan-means r (eqb q 0) q (applied room sc st).shown e).0 ∙ eq-eqb r.refusal 0 z)

module _ (room : Room) (g : Scene) (h : List Step) (st : Step) (l : List ℕ) (s : Shown) (R : Replayed room g h l s) where
  pub next-refused : (s.refusal ≡ 0 → ⊥) → Replayed room g (st ∷ h) l s
  unfolding replays
  next-refused k =
      let few = R.few in
      let f : eqb s.refusal 0 ≡ false = ne_eqb s.refusal 0 k in
      let w : replays room g h ≡ false = sym R.right ∙ f in
      record { right = f ∙ rw w; list = λ z. absurd (k z); few = omega arith; last = λ z. absurd (k z) }

  pub next_step : s.refusal ≡ 0 → (r : Shown) (m : List ℕ) → plan_of r ≡ judged room (length h) (scene_in l (entries s)) st → r.n ≤ s.n + 1
      → (r.refusal ≡ 0 → places_in m ≡ moves (scene_in l (entries s)) st) → Replayed room g (st ∷ h) m r
  unfolding replays replay judged applied
  next_step k r m e n f =
      let few = R.few in
      let sc = replay room g h in
      let same : scene_in l (entries s) ≡ sc = λ i. record { shown = R.list k i; last = R.last k i } in
      let q = refusal room (length h) sc st in
      let p : plan_of r ≡ cond (eqb q 0) (ok (applied room sc st).shown) (no q) = e ∙ ap (λ (c : Scene). judged room (length h) c st) same in
      let means = plan-means r (eqb q 0) q (applied room sc st).shown p in
      let t : replays room g h ≡ true = sym R.right ∙ eq-eqb s.refusal 0 k in
      record { right = means.0 ∙ rw t; list = means.1; few = omega arith; last = λ z. f z ∙ ap (λ (c : Scene). moves c st) same }
