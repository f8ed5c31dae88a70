-- Laws of the tables, and the bridge: a room that the tables tell has the steps, the replay and the refusals of the room made of them.
-- Assumes nothing.
use Rattle.std.proofs.Common.{ℕ, ◌+◌, ◌*◌, ◌<◌, ◌≤◌, ◌≡◌, refl, ap, ap₂, ◌∙◌, Bool, true, false, cond, not, ◌&&◌, ◌||◌, List, [], ◌∷◌, ◌++◌, eqb, leb, get_or, length, arith, eq-eqb, ne_eqb, le-leb, leb-true}
use borrow.Author.Tests.{lt-leb}
use Rattle.number.proofs.BoolLaws.{or_left, or_right}
use Rattle.scene.specs.declared.Entry.{Entry}
use Rattle.scene.specs.declared.Step.{Step}
use Rattle.scene.specs.declared.Step.TheVariants.{Draw, Hide}
use Rattle.scene.specs.Painting.{Room, covers}
use Rattle.scene.specs.Steps.{Scene, some, only, without, entry_of, same_box, clash, removes, adds, moves, applied, touches, allowed, refusal, bare, replay}
use Rattle.scene.specs.Steps.{most_steps}
use Rattle.scene.specs.Steps.{replays}
use Rattle.scene.proofs.Allowed.{Allowed, allowed-means, allowed_same}
use Rattle.replay.specs.declared.Size.{Size}
use Rattle.replay.specs.Tables.{cell_of, verdict_of, room_of_tables, Sizes, draws, names, at_corner, size_allowed, TablesAgree}
use Rattle.stored.specs.Bytes.{session_of}
use Rattle.replay.specs.Replay.{no, ok, judged, base_of}

-- ---- cells

pub cell_none : (l : List ℕ) (n o k : ℕ) → o ≡ 0 → 0 ≡ cell_of l n o k
unfolding cell_of
cell_none l n o k e = rw (eq-eqb o 0 e)

pub cell_row : (l : List ℕ) (n o k : ℕ) → (o ≡ 0 → ⊥) → o ≤ n → get_or l (8 * o + k) 0 ≡ cell_of l n o k
unfolding cell_of
cell_row l n o k e h = rw (ne_eqb o 0 e, le-leb o n h)

pub cell_past : (l : List ℕ) (n o k : ℕ) → (o ≡ 0 → ⊥) → n < o → 0 ≡ cell_of l n o k
unfolding cell_of
cell_past l n o k e h = rw (ne_eqb o 0 e, lt-leb o n h)

module _ (l : List ℕ) (n o s : ℕ) where
  pub verdict_none : o ≡ 0 → 11 ≡ verdict_of l n o s
  unfolding verdict_of
  verdict_none e = rw (eq-eqb o 0 e)

  pub verdict_past : (o ≡ 0 → ⊥) → n < o → 11 ≡ verdict_of l n o s
  unfolding verdict_of
  verdict_past e h = rw (ne_eqb o 0 e, lt-leb o n h)

  module _ (e : o ≡ 0 → ⊥) (h : o ≤ n) where
    pub verdict_zero : s ≡ 0 → 11 ≡ verdict_of l n o s
    unfolding verdict_of
    verdict_zero f = rw (ne_eqb o 0 e, le-leb o n h, eq-eqb s 0 f)

    pub verdict_over : (s ≡ 0 → ⊥) → 9 < s → 11 ≡ verdict_of l n o s
    unfolding verdict_of
    verdict_over f g = rw (ne_eqb o 0 e, le-leb o n h, ne_eqb s 0 f, lt-leb s 9 g)

    pub verdict_cell : (s ≡ 0 → ⊥) → s ≤ 9 → get_or l (10 * o + s) 0 ≡ verdict_of l n o s
    unfolding verdict_of
    verdict_cell f g = rw (ne_eqb o 0 e, le-leb o n h, ne_eqb s 0 f, le-leb s 9 g)

  -- a verdict other than 11 is of an object and a state that are there
  pub verdict_bounds : (verdict_of l n o s ≡ 11 → ⊥) → (o ≤ n) × (s ≤ 9)
  unfolding verdict_of
  verdict_bounds h = go (eqb o 0) (leb o n) (eqb s 0) (leb s 9) refl refl h
    where
      go : (a b c d : Bool) → leb o n ≡ b → leb s 9 ≡ d
          → (cond a 11 (cond b (cond c 11 (cond d (get_or l (10 * o + s) 0) 11)) 11) ≡ 11 → ⊥) → (o ≤ n) × (s ≤ 9)
      go true b c d p q g = absurd (g refl)
      go false false c d p q g = absurd (g refl)
      go false true true d p q g = absurd (g refl)
      go false true false false p q g = absurd (g refl)
      go false true false true p q g = (leb-true o n p, leb-true s 9 q)

-- an allowed place is in the room, and the image's size is allowed
module _ (room : Room) (e : Entry) (h : allowed room e ≡ true) where
  abbrev w : ℕ
  w = room.width e.object

  abbrev t : ℕ
  t = room.tall e.object

  parts : Allowed room e
  parts = (allowed-means room e).0 h

  pub allowed-right : (e.x + w ≤ 8 * room.strips) × (0 < w)
  allowed-right = (parts.inside.0, parts.sized.0)

  pub allowed-below : (e.y + t ≤ room.height) × (0 < t)
  allowed-below = (parts.inside.1, parts.sized.1)

  allowed-size : size_allowed room e.object ≡ true
  unfolding size_allowed
  allowed-size =
      let r = allowed-right in
      let b = allowed-below in
      (allowed-means room (at_corner e.object)).1
      (record { aligned = (refl, parts.aligned.1); sized = parts.sized; inside = (omega arith, omega arith) })

-- a place that a table's image is allowed at: 128 strips and 200 rows at most
pub allowed_bounds : (objects v : List ℕ) (size : Size) (e : Entry) → Sizes size → allowed (room_of_tables objects v size) e ≡ true → (e.x < 1024) × (e.y < 200)
unfolding room_of_tables
allowed_bounds objects v size e z h =
    let r = allowed-right (room_of_tables objects v size) e h in
    let b = allowed-below (room_of_tables objects v size) e h in
    (omega arith, omega arith)

-- ---- the bridge

own_draw : (o s : ℕ) → (eqb o o && eqb s s) ≡ true
own_draw o s = rw (eq-eqb o o refl, eq-eqb s s refl)

-- the refusals 11, 12 and the image's own, which counts only where the others are not given
draw_cases : (d d' a a' : Bool) (f f' : ℕ) → d ≡ d' → a ≡ a' → (d ≡ true → a ≡ true → f ≡ f')
    → cond (not d) 11 (cond (not a) 12 f) ≡ cond (not d') 11 (cond (not a') 12 f')
draw_cases true d' true a' f f' p q h = rw (← p, ← q) (h refl refl)
draw_cases true d' false a' f f' p q h = rw (← p, ← q)
draw_cases false d' a a' f f' p q h = rw (← p)

module _ (room : Room) (objects verdicts : List ℕ) (size : Size) where
  abbrev T : Room
  T = room_of_tables objects verdicts size

  module _ (steps : List Step) (K : TablesAgree room objects verdicts size steps) where
    bare-same : bare room ≡ bare T
    unfolding bare room_of_tables
    bare-same = λ i. record { shown = []; last = λ o. record { x = K.home_x o i; y = K.home_y o i; set = false } }

    box_same : (e f : Entry) → same_box room e f ≡ same_box T e f
    unfolding same_box room_of_tables
    box_same e f = rw (K.width e.object, K.width f.object, K.tall e.object, K.tall f.object)

    removes-same : (sc : Scene) (st : Step) (e : Entry) → removes room sc st e ≡ removes T sc st e
    unfolding removes clash entry_of
    removes-same sc (Draw o s p) e = ap (λ (b : Bool). eqb e.object o || b) (box_same e (entry_of sc o s p))
    removes-same sc (Hide o) e = refl

    adds_same : (sc : Scene) (st : Step) → adds room sc st ≡ adds T sc st
    unfolding adds
    adds_same sc (Draw o s p) = refl
    adds_same sc (Hide o) = refl

    pub applied-same : (sc : Scene) (st : Step) → applied room sc st ≡ applied T sc st
    unfolding applied
    applied-same sc st = λ i. record { shown = without (λ e. removes-same sc st e i) sc.shown ++ adds_same sc st i; last = moves sc st }

    drawable-same : (o s : ℕ) → names steps o s ≡ true → room.drawable o s ≡ T.drawable o s
    unfolding room_of_tables
    drawable-same o s k = K.drawable o s k

    fault-same : (o s : ℕ) → names steps o s ≡ true → room.drawable o s ≡ true → size_allowed room o ≡ true → room.fault o s ≡ T.fault o s
    unfolding room_of_tables
    fault-same o s k d z = K.fault o s k d z

    covers-same : (e : Entry) (s : ℕ) → covers room e s ≡ covers T e s
    unfolding covers room_of_tables
    covers-same e s = rw (K.width e.object)

    pub touches-same : (sc : Scene) (st : Step) (s : ℕ) → touches room sc st s ≡ touches T sc st s
    unfolding touches
    touches-same sc st s = λ i. some (λ e. covers-same e s i) (only (λ e. removes-same sc st e i) sc.shown ++ adds_same sc st i)

    allowed_known : (e : Entry) → allowed room e ≡ allowed T e
    unfolding room_of_tables
    allowed_known e = allowed_same room T e (K.width e.object) (K.tall e.object) K.strips K.height

    -- the refusal of a step whose verdict is known
    refusal-same : (n : ℕ) (sc : Scene) (st : Step) → ((o s : ℕ) → draws st o s ≡ true → names steps o s ≡ true)
        → refusal room n sc st ≡ refusal T n sc st
    unfolding refusal draws entry_of
    refusal-same n sc (Draw o s p) known =
        let k = known o s (own_draw o s) in
        let e = entry_of sc o s p in
        ap (λ (m : ℕ). cond (leb most_steps n) 10 m)
        (draw_cases (room.drawable o s) (T.drawable o s) (allowed room e) (allowed T e) (room.fault o s) (T.fault o s)
        (drawable-same o s k) (allowed_known e) (λ d a. fault-same o s k d (allowed-size room e a)))
    refusal-same n sc (Hide o) known = refl

    pub judged-same : (n : ℕ) (sc : Scene) (st : Step) → ((o s : ℕ) → draws st o s ≡ true → names steps o s ≡ true)
        → judged room n sc st ≡ judged T n sc st
    unfolding judged
    judged-same n sc st k =
        λ i. cond (eqb (refusal-same n sc st k i) 0) (ok (applied-same sc st i).shown) (no (refusal-same n sc st k i))

    -- a replay from one scene
    module _ (g g' : Scene) (is : g ≡ g') where
      pub replay_from : (h : List Step) → replay room g h ≡ replay T g' h
      unfolding replay
      replay_from [] = is
      replay_from (st ∷ h) = ap (λ (sc : Scene). applied room sc st) (replay_from h) ∙ applied-same (replay T g' h) st

      pub replays_from : (h : List Step) → ((o s : ℕ) → names h o s ≡ true → names steps o s ≡ true) → replays room g h ≡ replays T g' h
      unfolding replays names
      replays_from [] k = refl
      replays_from (st ∷ h) k =
          ap₂ ◌&&◌
          (replays_from h (λ o s n. k o s (or_right (draws st o s) (names h o s) n)))
          (ap (λ (m : ℕ). eqb m 0)
          (ap (λ (sc : Scene). refusal room (length h) sc st) (replay_from h)
          ∙ refusal-same (length h) (replay T g' h) st (λ o s n. k o s (or_left (draws st o s) (names h o s) n))))

    -- a stored session's base is the same in both
    pub base_same : (l : List ℕ) → base_of room l ≡ base_of T l
    unfolding session_of
    base_same l = bare-same
