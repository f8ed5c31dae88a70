-- Laws of the strips that a step touches. Assumes nothing.
use Rattle.std.proofs.Common.{ℕ, ◌+◌, ◌-◌, ◌<◌, ◌≡◌, refl, sym, ap, ap₂, subst, ◌∙◌, Bool, true, false, cond, ◌&&◌, ◌||◌, List, [], ◌∷◌, ◌⊎◌, ⊎_elim, eqb, ltb, get_or, set, take, length, length-set, get_or-set_same, get_or-set_other, ext_get_or, arith, eq-or-lt_of_le, lt-ltb, le-ltb, ltb-true, ltb-false, eqb-true}
use Rattle.std.specs.Int.{from_bool}
use borrow.Author.Tests.{eqb-false}
use Rattle.scene.specs.declared.Call.TheVariants.{Make, TakeBack}
use Rattle.scene.specs.declared.Entry.{Entry}
use Rattle.scene.specs.declared.Place.{Place}
use Rattle.scene.specs.declared.Step.{Step}
use Rattle.scene.specs.declared.Step.TheVariants.{Draw, Hide}
use Rattle.scene.specs.Painting.{Room, covers}
use Rattle.scene.specs.Steps.{Scene, some, only, spot_of, entry_of, clash, removes, adds, touches, refusal, replay, replays}
use Rattle.scene.specs.Session.{scene_of}
use Rattle.grid.proofs.Upd.{length-upd, get_or-upd, upd-upd, upd_ext}
use Rattle.replay.specs.declared.Spot.{Spot}
use Rattle.replay.specs.Places.{IsAt, scene_in}
use Rattle.replay.specs.Replay.{entry_at, plan_of, base_of}
use Rattle.stored.specs.declared.Shown.{Shown}
use Rattle.stored.specs.Bytes.{down, step_at, session_of, entries}
use Rattle.session.specs.Plans.{flag, flagged, marks, leaves, changed, valid_shown, planned, newest_touches, call_touches, LastPlaces}
use Rattle.scene.proofs.Lists.{some-append}
use Rattle.replay.proofs.Lists.{or_false, append-nil, some_more}
use Rattle.replay.proofs.ReplayLaws.{replays_older, right-shown}
use Rattle.session.proofs.PlanLaws.{accepted-plan, accepted_back, list_is, list-zero}

either : {A B C : Type 0} → A ⊎ B → (A → C) → (B → C) → C
either s f g = ⊎_elim f g s

-- ---- the entry that a draw adds

entry_is : (sc : Scene) (o s : ℕ) (p : Place) (at : Spot) → IsAt at (spot_of sc o p)
    → entry_at o s at ≡ entry_of sc o s p
unfolding entry_of
entry_is sc o s p at a = λ i. record { object = o; state = s; x = a.x i; y = a.y i }

-- ---- flags

pub flag_is : (b : Bool) → from_bool b ≡ flag b
flag_is true = refl
flag_is false = refl

below : (k n : ℕ) → (k ≡ n → ⊥) → ltb k n ≡ ltb k (n + 1)
below k n z = go (ltb k n) refl
  where
    go : (t : Bool) → ltb k n ≡ t → t ≡ ltb k (n + 1)
    go true p = sym (lt-ltb k (n + 1) (omega (arith, ltb-true k n p)))
    go false p = either (eq-or-lt_of_le (ltb-false k n p)) (λ q. absurd (z (sym q))) (λ q. sym (le-ltb k (n + 1) (omega arith)))

module _ (f : ℕ → Bool) (l : List ℕ) where
  pub length-flagged : (n : ℕ) → length (flagged f n l) ≡ length l
  unfolding flagged
  length-flagged n = length-upd (λ k old. cond (ltb k n) (flag (f k)) old) l

  pub flag_at : (n k : ℕ) → k < length l → get_or (flagged f n l) k 0 ≡ cond (ltb k n) (flag (f k)) (get_or l k 0)
  unfolding flagged
  flag_at n k h = get_or-upd (λ k old. cond (ltb k n) (flag (f k)) old) l k h

  pub flag-none : l ≡ flagged f 0 l
  flag-none =
      ext_get_or 0 l (flagged f 0 l) (sym (length-flagged 0)) (λ k h. sym (flag_at 0 k h ∙ rw (le-ltb k 0 (omega arith))))

  pub flag-more : (n b : ℕ) → n < length l → b ≡ flag (f n) → set (flagged f n l) n b ≡ flagged f (n + 1) l
  flag-more n b h e =
      ext_get_or 0 (set (flagged f n l) n b) (flagged f (n + 1) l)
      (length-set (flagged f n l) n b ∙ length-flagged n ∙ sym (length-flagged (n + 1)))
      (λ k g. at k (subst (λ (m : ℕ). k < m) (length-set (flagged f n l) n b ∙ length-flagged n) g) (eqb k n) refl)
    where
      at : (k : ℕ) → k < length l → (t : Bool) → eqb k n ≡ t → get_or (set (flagged f n l) n b) k 0 ≡ get_or (flagged f (n + 1) l) k 0
      at k g true q =
          let z = eqb-true k n q in
          ap (λ (m : ℕ). get_or (set (flagged f n l) n b) m 0) z
          ∙ get_or-set_same (flagged f n l) n b 0 (omega (arith, length-flagged n))
          ∙ e ∙ ap (λ (m : ℕ). flag (f m)) (sym z)
          ∙ sym (flag_at (n + 1) k g ∙ rw (lt-ltb k (n + 1) (omega arith)))
      at k g false q =
          let z = eqb-false k n q in
          get_or-set_other (flagged f n l) n k b 0 z
          ∙ flag_at n k g
          ∙ ap (λ (t : Bool). cond t (flag (f k)) (get_or l k 0)) (below k n z)
          ∙ sym (flag_at (n + 1) k g)

  pub flag_later : (n : ℕ) → n < length l → get_or (flagged f n l) n 0 ≡ get_or l n 0
  flag_later n h = flag_at n n h ∙ rw (le-ltb n n (omega arith))

  -- old marks, kept beside new ones
  one : (b : Bool) → eqb (flag b) 1 ≡ b
  one true = refl
  one false = refl

  pub flag-kept : (h : ℕ → Bool) (n : ℕ) → flagged (marks (flagged f n l) true h) n (flagged f n l) ≡ flagged (λ k. f k || h k) n l
  unfolding flagged
  flag-kept h n =
      let g = marks (flagged f n l) true h in
      upd-upd (λ k old. cond (ltb k n) (flag (g k)) old) (λ k old. cond (ltb k n) (flag (f k)) old) l
      ∙ upd_ext (λ k old. cond (ltb k n) (flag (g k)) (cond (ltb k n) (flag (f k)) old)) (λ k old. cond (ltb k n) (flag (f k || h k)) old) l
      (λ k i. at k i (ltb k n) refl)
    where
      at : (k : ℕ) → k < length l → (t : Bool) → ltb k n ≡ t
          → cond t (flag (marks (flagged f n l) true h k)) (cond t (flag (f k)) (get_or l k 0)) ≡ cond t (flag (f k || h k)) (get_or l k 0)
      at k i true q =
          let e : get_or (flagged f n l) k 0 ≡ flag (f k) = flag_at n k i ∙ rw q in
          ap (λ (b : Bool). flag (b || h k)) (ap (λ (m : ℕ). eqb m 1) e ∙ one (f k))
      at k i false q = refl

-- ---- the strips of the entries that a step removes or adds

or_assoc : (a b c : Bool) → ((a || b) || c) ≡ (a || (b || c))
or_assoc true b c = refl
or_assoc false b c = refl

-- of one entry more, beside others
pub leaves-more : (room : Room) (boxes : Bool) (e : Entry) (g : ℕ → Bool) (es : List Entry) (i : ℕ) (d : Entry) (n : ℕ) (l : List ℕ) → i < length es
    → flagged (λ k. (g k || some (leaves room boxes e k) (take i es)) || leaves room boxes e k (get_or es i d)) n l
    ≡ flagged (λ k. g k || some (leaves room boxes e k) (take (i + 1) es)) n l
leaves-more room boxes e g es i d n l h =
    ap (λ (f : ℕ → Bool). flagged f n l)
    (λ j k. (or_assoc (g k) (some (leaves room boxes e k) (take i es)) (leaves room boxes e k (get_or es i d))
    ∙ ap (λ (b : Bool). g k || b) (some_more (leaves room boxes e k) es i d (some (leaves room boxes e k) (take i es)) h refl)) j)

pub leaves_none : (room : Room) (boxes : Bool) (e : Entry) (g : ℕ → Bool) (n : ℕ) (l : List ℕ)
    → flagged g n l ≡ flagged (λ k. g k || some (leaves room boxes e k) []) n l
unfolding some
leaves_none room boxes e g n l = ap (λ (f : ℕ → Bool). flagged f n l) (λ j k. sym (or_false (g k)) j)

-- an entry that goes, beside the others
pub gone_yes : (g h : ℕ → Bool) (l m r : List ℕ) (n : ℕ) (b : Bool) → m ≡ flagged g n l → b ≡ true → r ≡ flagged (marks m true h) n m
    → r ≡ flagged (λ k. g k || (b && h k)) n l
gone_yes g h l m r n b e t q =
    q ∙ ap (λ (x : List ℕ). flagged (marks x true h) n x) e ∙ flag-kept g l h n ∙ ap (λ (c : Bool). flagged (λ k. g k || (c && h k)) n l) (sym t)

some-only : (c f : Entry → Bool) (es : List Entry) → some c (only f es) ≡ some (λ e. f e && c e) es
unfolding some only
some-only c f [] = refl
some-only c f (e ∷ es) = go (f e) (some-only c f es)
  where
    go : (t : Bool) → some c (only f es) ≡ some (λ x. f x && c x) es
        → some c (cond t (e ∷ only f es) (only f es)) ≡ ((t && c e) || some (λ x. f x && c x) es)
    go true h = ap (λ (b : Bool). c e || b) h
    go false h = h

pub hide_touches : (room : Room) (sc : Scene) (x e : Entry) (n : ℕ) (l m : List ℕ) → x ≡ e → m ≡ flagged (changed room false x sc.shown) n l
    → m ≡ flagged (touches room sc (Hide e.object)) n l
unfolding touches removes adds
hide_touches room sc x e n l m is h =
    h
    ∙ ap (λ (y : Entry). flagged (changed room false y sc.shown) n l) is
    ∙ ap (λ (g : ℕ → Bool). flagged g n l)
    (λ i k. (ap (λ (f : Entry → Bool). some (λ y. f y && covers room y k) sc.shown) (λ j y. or_false (eqb y.object e.object) j)
    ∙ sym (some-only (λ y. covers room y k) (λ y. eqb y.object e.object) sc.shown)
    ∙ ap (some (λ y. covers room y k)) (sym (append-nil (only (λ y. eqb y.object e.object) sc.shown)))) i)

pub draw_touches : (room : Room) (sc : Scene) (o s : ℕ) (p : Place) (at : Spot) (x : Entry) (n : ℕ) (l m : List ℕ)
    → IsAt at (spot_of sc o p) → x ≡ entry_at o s at → m ≡ flagged (changed room true x sc.shown) n l
    → m ≡ flagged (touches room sc (Draw o s p)) n l
unfolding touches removes adds clash some
draw_touches room sc o s p at x n l m a is h =
    let e = entry_of sc o s p in
    h
    ∙ ap (λ (y : Entry). flagged (changed room true y sc.shown) n l) (is ∙ entry_is sc o s p at a)
    ∙ ap (λ (g : ℕ → Bool). flagged g n l)
    (λ i k. (or_swap (covers room e k) (some (λ y. clash room y e && covers room y k) sc.shown)
    ∙ ap₂ ◌||◌ (sym (some-only (λ y. covers room y k) (λ y. clash room y e) sc.shown)) (sym (or_false (covers room e k)))
    ∙ sym (some-append (λ y. covers room y k) (only (λ y. clash room y e) sc.shown) (e ∷ []))) i)
  where
    or_swap : (a b : Bool) → (a || b) ≡ (b || a)
    or_swap true true = refl
    or_swap true false = refl
    or_swap false true = refl
    or_swap false false = refl

-- ---- the strips of a call, and that the newest step of a session was accepted

module _ (room : Room) (l : List ℕ) where
  module _ (st : Step) (s r : Shown) (p : plan_of s ≡ valid_shown room l) (q : plan_of r ≡ planned room l (Make st)) (y : r.refusal ≡ 0) where
    pub before_zero : s.refusal ≡ 0
    before_zero = list-zero room l s p (accepted-plan room l st r q y).0

    pub step_touches : (places : List ℕ) → LastPlaces room l (get_or l 0 0) places
        → touches room (scene_in places (entries s)) st ≡ call_touches room (session_of room l) (Make st)
    unfolding scene_of session_of
    step_touches places k = λ i. touches room (record { shown = list_is room l s p before_zero i; last = k i }) st

  module _ (r : Shown) (q : plan_of r ≡ planned room l TakeBack) (y : r.refusal ≡ 0) where
    abbrev older : List Step
    older = down (step_at l) (get_or l 0 0 - 1)

    abbrev newest : Step
    newest = step_at l (get_or l 0 0 - 1)

    pub back_accepted : refusal room (length older) (replay room (base_of room l) older) newest ≡ 0
    back_accepted =
        let a = accepted_back room l r q y in
        let g = base_of room l in
        (replays_older room g newest older (subst (λ (h : List Step). replays room g h ≡ true) a.1 (right-shown room l a.0).0)).1

    pub back_touches : (places : List ℕ) → LastPlaces room l (get_or l 0 0 - 1) places
        → touches room (scene_in places (entries r)) newest ≡ call_touches room (session_of room l) TakeBack
    unfolding newest_touches session_of
    back_touches places k =
        let a = accepted_back room l r q y in
        (λ i. touches room (record { shown = a.2 i; last = k i }) newest) ∙ sym (ap (newest_touches room (base_of room l)) a.1)
