-- Laws of a session's bytes: what was put is read back, and the rest stays. Assumes nothing.
use Rattle.std.proofs.Common.{ℕ, zero, suc, ◌+◌, ◌*◌, ◌-◌, ◌<◌, ◌≤◌, ◌≡◌, refl, sym, ap, ap₂, subst, ◌∙◌, Bool, true, false, ◌&&◌, List, [], ◌∷◌, ◌++◌, get_or, set, take, drop, length, length-set, replicate, get_or-set_same, get_or-set_other, drop-cons, get_or-take, length-take-le, arith, add-one}
use mathlib.Core.Bool.{and-false}
use lib.Seq.{drop-length}
use Rattle.number.proofs.BufferLaws.{over_of}
use Rattle.scene.specs.declared.Call.TheVariants.{Make, TakeBack}
use Rattle.scene.specs.declared.Entry.{Entry}
use Rattle.scene.specs.declared.Place.TheVariants.{Last, Strip}
use Rattle.scene.specs.declared.Step.{Step}
use Rattle.scene.specs.declared.Step.TheVariants.{Draw, Hide}
use Rattle.scene.specs.Steps.{most_steps}
use Rattle.stored.specs.Bytes.{down, step_of, step_at, kind_of, object_of, state_of, place_a, place_b, put5, put_step, Mark, mark, mark_at, marks_from, is_mark, same_marks}
use Rattle.stored.specs.Bytes.{put_marks, put_shown, emptied, steps_of, put_history, put_call, All, SmallEntry}
use Rattle.stored.specs.Layout.{session_size, steps_from, step_size, shown_from, mark_size}
use Rattle.stored.proofs.Lists.{all_at}

-- a store at i leaves what stands before it, and what stands after it
pub before : (l : List ℕ) (i j v : ℕ) → j < i → get_or (set l i v) j 0 ≡ get_or l j 0
before l i j v h = get_or-set_other l i j v 0 (λ e. omega arith)

pub after : (l : List ℕ) (i j v : ℕ) → i < j → get_or (set l i v) j 0 ≡ get_or l j 0
after l i j v h = get_or-set_other l i j v 0 (λ e. omega arith)

module _ (l : List ℕ) (at k o s a b : ℕ) where
  abbrev l1 : List ℕ
  l1 = set l at k

  abbrev l2 : List ℕ
  l2 = set l1 (at + 1) o

  abbrev l3 : List ℕ
  l3 = set l2 (at + 2) s

  abbrev l4 : List ℕ
  l4 = set l3 (at + 3) a

  pub length-put5 : length (put5 l at k o s a b) ≡ length l
  length-put5 = simp length-set

  pub put5-below : (j : ℕ) → j < at → get_or (put5 l at k o s a b) j 0 ≡ get_or l j 0
  put5-below j h = before l4 (at + 4) j b (omega arith) ∙ before l3 (at + 3) j a (omega arith) ∙ before l2 (at + 2) j s (omega arith) ∙ before l1 (at + 1) j o
      (omega arith) ∙ before l at j k (omega arith)

  module _ (fits : at + step_size ≤ length l) where
    pub put5-0 : get_or (put5 l at k o s a b) at 0 ≡ k
    put5-0 = before l4 (at + 4) at b (omega arith) ∙ before l3 (at + 3) at a (omega arith) ∙ before l2 (at + 2) at s (omega arith) ∙ before l1 (at + 1) at o
        (omega arith) ∙ get_or-set_same l at k 0 (omega arith)

    pub put5-1 : get_or (put5 l at k o s a b) (at + 1) 0 ≡ o
    put5-1 = before l4 (at + 4) (at + 1) b (omega arith) ∙ before l3 (at + 3) (at + 1) a (omega arith) ∙ before l2 (at + 2) (at + 1) s (omega arith) ∙
        get_or-set_same l1 (at + 1) o 0 (simp length-set (omega arith))

    pub put5-2 : get_or (put5 l at k o s a b) (at + 2) 0 ≡ s
    put5-2 = before l4 (at + 4) (at + 2) b (omega arith) ∙ before l3 (at + 3) (at + 2) a (omega arith) ∙ get_or-set_same l2 (at + 2) s 0
        (simp length-set (omega arith))

    pub put5-3 : get_or (put5 l at k o s a b) (at + 3) 0 ≡ a
    put5-3 = before l4 (at + 4) (at + 3) b (omega arith) ∙ get_or-set_same l3 (at + 3) a 0 (simp length-set (omega arith))

    pub put5-4 : get_or (put5 l at k o s a b) (at + 4) 0 ≡ b
    put5-4 = get_or-set_same l4 (at + 4) b 0 (simp length-set (omega arith))

    pub step_of-put5 : step_of (get_or (put5 l at k o s a b) at 0) (get_or (put5 l at k o s a b) (at + 1) 0) (get_or (put5 l at k o s a b) (at + 2) 0)
        (get_or (put5 l at k o s a b) (at + 3) 0) (get_or (put5 l at k o s a b) (at + 4) 0) ≡ step_of k o s a b
    step_of-put5 = rw (put5-0, put5-1, put5-2, put5-3, put5-4)

-- a record is what its five bytes say
pub step_at-same : (l m : List ℕ) (i : ℕ)
    → ((j : ℕ) → steps_from + step_size * i ≤ j → j < steps_from + step_size * i + step_size → get_or l j 0 ≡ get_or m j 0)
    → step_at l i ≡ step_at m i
step_at-same l m i h =
    rw (
      h (steps_from + step_size * i) (omega arith) (omega arith),
      h (steps_from + step_size * i + 1) (omega arith) (omega arith),
      h (steps_from + step_size * i + 2) (omega arith) (omega arith),
      h (steps_from + step_size * i + 3) (omega arith) (omega arith),
      h (steps_from + step_size * i + 4) (omega arith) (omega arith),
    )

module _ (l : List ℕ) (i : ℕ) (t : Step) where
  -- what was put is read back
  step_code : step_of (kind_of t) (object_of t) (state_of t) (place_a t) (place_b t) ≡ t
  step_code = go t
    where
      go : (u : Step) → step_of (kind_of u) (object_of u) (state_of u) (place_a u) (place_b u) ≡ u
      go (Hide o) = refl
      go (Draw o s Last) = refl
      go (Draw o s (Strip a b)) = refl

  pub step_back : steps_from + step_size * i + step_size ≤ length l → step_at (put_step l i t) i ≡ t
  step_back h = step_of-put5 l (steps_from + step_size * i) (kind_of t) (object_of t) (state_of t) (place_a t) (place_b t) h ∙ step_code

  -- the other records are untouched
  pub step_kept : (j : ℕ) → j < i → step_at (put_step l i t) j ≡ step_at l j
  step_kept j h = step_at-same (put_step l i t) l j (λ n _ g. put5-below l (steps_from + step_size * i) _ _ _ _ _ n (omega arith))

-- lists by index, the newest first
pub down-same : {A : Type 0} (f g : ℕ → A) (n : ℕ) → ((k : ℕ) → k < n → f k ≡ g k) → down f n ≡ down g n
down-same f g zero h = refl
down-same f g (suc n) h = ap₂ ◌∷◌ (h n (omega arith)) (down-same f g n (λ k l. h k (omega arith)))

pub length-down : {A : Type 0} (f : ℕ → A) (n : ℕ) → length (down f n) ≡ n
length-down f zero = refl
length-down f (suc n) = ap suc (length-down f n)

-- ---- marks, from any byte on

module _ (from : ℕ) where
  pub length-marks : (l : List ℕ) (k : ℕ) (es : List Entry) → length (put_marks l from k es) ≡ length l
  unfolding put_marks
  length-marks l k [] = refl
  length-marks l k (e ∷ es) =
      length-marks (set (set l (from + mark_size * k) e.object) (from + mark_size * k + 1) e.state) (suc k) es ∙ simp length-set

  pub marks-low : (l : List ℕ) (k : ℕ) (es : List Entry) (j : ℕ) → j < from + mark_size * k → get_or (put_marks l from k es) j 0 ≡ get_or l j 0
  unfolding put_marks
  marks-low l k [] j h = refl
  marks-low l k (e ∷ es) j h =
      let at = from + mark_size * k in
      let m = set l at e.object in
      marks-low (set m (at + 1) e.state) (suc k) es j (omega arith) ∙ before m (at + 1) j e.state (omega arith) ∙ before l at j e.object (omega arith)

  pub marks-same : (l m : List ℕ) (k n : ℕ) → ((j : ℕ) → from ≤ j → get_or l j 0 ≡ get_or m j 0) → marks_from l from k n ≡ marks_from m from k n
  unfolding marks_from
  marks-same l m k zero h = refl
  marks-same l m k (suc n) h =
      ap₂ ◌∷◌ (ap₂ mark (h (from + mark_size * k) (omega arith)) (h (from + mark_size * k + 1) (omega arith))) (marks-same l m (suc k) n h)

abbrev pub marks_of : List Entry → List Mark
marks_of [] = []
marks_of (e ∷ es) = mark e.object e.state ∷ marks_of es

pub marks_back : (from : ℕ) (l : List ℕ) (k : ℕ) (es : List Entry) → from + mark_size * k + mark_size * length es ≤ length l
    → marks_from (put_marks l from k es) from k (length es) ≡ marks_of es
unfolding put_marks marks_from
marks_back from l k [] h = refl
marks_back from l k (e ∷ es) h =
    let at = from + mark_size * k in
    let m = set l at e.object in
    let n = set m (at + 1) e.state in
    let ln : length n ≡ length l = simp length-set in
    let hm : at + 1 < length m = simp length-set (omega arith) in
    ap₂ ◌∷◌
    (ap₂ mark
    (marks-low from n (suc k) es at (omega arith) ∙ before m (at + 1) at e.state (omega arith) ∙ get_or-set_same l at e.object 0 (omega arith))
    (marks-low from n (suc k) es (at + 1) (omega arith) ∙ get_or-set_same m (at + 1) e.state 0 hm))
    (marks_back from n (suc k) es (omega arith))

module _ (l : List ℕ) (es : List Entry) where
  shown-first : get_or (put_shown l es) 0 0 ≡ get_or l 0 0
  shown-first = before (put_marks l shown_from 0 es) 1 0 (length es) (omega arith) ∙ marks-low shown_from l 0 es 0 (omega arith)

  shown_step : (i : ℕ) → i < most_steps → step_at (put_shown l es) i ≡ step_at l i
  shown_step i h =
      step_at-same (put_shown l es) l i (λ j a b. after (put_marks l shown_from 0 es) 1 j (length es) (omega arith)
      ∙ marks-low shown_from l 0 es j (omega arith))

  module _ (h : shown_from + mark_size * length es ≤ length l) where
    pub shown-count : get_or (put_shown l es) 1 0 ≡ length es
    shown-count =
        let lm : length (put_marks l shown_from 0 es) ≡ length l = length-marks shown_from l 0 es in
        get_or-set_same (put_marks l shown_from 0 es) 1 (length es) 0 (omega arith)

    -- the stored list is read back
    pub shown_back : marks_from (put_shown l es) shown_from 0 (get_or (put_shown l es) 1 0) ≡ marks_of es
    shown_back =
        ap (marks_from (put_shown l es) shown_from 0) shown-count
        ∙ marks-same shown_from (put_shown l es) (put_marks l shown_from 0 es) 0 (length es)
        (λ j g. after (put_marks l shown_from 0 es) 1 j (length es) (omega arith))
        ∙ marks_back shown_from l 0 es (omega arith)

-- ---- a step put on the history, and dropped from it

module _ (l : List ℕ) (st : Step) (es : List Entry) (long : session_size ≤ length l) (few : get_or l 0 0 < most_steps) where
  abbrev n : ℕ
  n = get_or l 0 0

  put_length : length (put_step l n st) ≡ length l
  put_length = length-put5 l (steps_from + step_size * n) (kind_of st) (object_of st) (state_of st) (place_a st) (place_b st)

  pub newest_length : length (put_history l (Make st)) ≡ length l
  newest_length = length-set (put_step l n st) 0 (n + 1) ∙ put_length

  after_first : get_or (put_call l (Make st) es) 0 0 ≡ suc n
  after_first = shown-first (put_history l (Make st)) es ∙ get_or-set_same (put_step l n st) 0 (n + 1) 0 (omega (arith, put_length)) ∙ add-one n

  after_at : (i : ℕ) → i < most_steps → step_at (put_call l (Make st) es) i ≡ step_at (put_step l n st) i
  after_at i g =
      shown_step (put_history l (Make st)) es i g
      ∙ step_at-same (put_history l (Make st)) (put_step l n st) i (λ j a b. after (put_step l n st) 0 j (n + 1) (omega arith))

  -- the history read back is the step before the history that was there
  pub steps-after : steps_of (put_call l (Make st) es) ≡ st ∷ steps_of l
  steps-after =
      ap (down (step_at (put_call l (Make st) es))) after_first
      ∙ ap₂ ◌∷◌ (after_at n few ∙ step_back l n st (omega arith))
      (down-same (step_at (put_call l (Make st) es)) (step_at l) n (λ j g. after_at j (omega arith) ∙ step_kept l n st j g))

module _ (l : List ℕ) (st : Step) (h : List Step) (es : List Entry) (long : session_size ≤ length l) (few : get_or l 0 0 ≤ most_steps)
    (e : steps_of l ≡ st ∷ h) where
  counted : get_or l 0 0 ≡ suc (length h)
  counted = sym (length-down (step_at l) (get_or l 0 0)) ∙ ap length e

  older_is : down (step_at l) (length h) ≡ h
  older_is = let s : down (step_at l) (suc (length h)) ≡ st ∷ h = ap (down (step_at l)) (sym counted) ∙ e in cc

  pub dropped_length : length (put_history l TakeBack) ≡ length l
  dropped_length = length-set l 0 (get_or l 0 0 - 1)

  pub steps_dropped : steps_of (put_call l TakeBack es) ≡ h
  steps_dropped =
      let c = counted in
      let one : get_or (put_call l TakeBack es) 0 0 ≡ length h =
      shown-first (put_history l TakeBack) es ∙ get_or-set_same l 0 (get_or l 0 0 - 1) 0 (omega arith) ∙ omega arith in
      ap (down (step_at (put_call l TakeBack es))) one
      ∙ down-same (step_at (put_call l TakeBack es)) (step_at l) (length h)
      (λ j g. shown_step (put_history l TakeBack) es j (omega arith) ∙ step_at-same (put_history l TakeBack) l j
      (λ i a b. after l 0 i (get_or l 0 0 - 1) (omega arith)))
      ∙ older_is

-- ---- the loops over marks

-- lists of two lengths do not agree
pub marks_differ : (l : List ℕ) (from k n : ℕ) (es : List Entry) → (n ≡ length es → ⊥) → same_marks (marks_from l from k n) es ≡ false
unfolding same_marks marks_from
marks_differ l from k zero [] h = absurd (h refl)
marks_differ l from k zero (e ∷ es) h = refl
marks_differ l from k (suc n) [] h = refl
marks_differ l from k (suc n) (e ∷ es) h = rw (marks_differ l from (suc k) n es (λ q. h (ap suc q))) (and-false (is_mark (mark_at l from k) e))

-- an array's first n entries
module _ (list : List Entry) (n : ℕ) (fits : n ≤ length list) where
  abbrev es : List Entry
  es = take n list

  long : length es ≡ n
  long = length-take-le n list fits

  next_entry : (i : ℕ) (d : Entry) → i < n → drop i es ≡ get_or list i d ∷ drop (i + 1) es
  next_entry i d h = drop-cons es i d (omega (arith, long)) ∙ ap₂ ◌∷◌ (get_or-take n list i d h) (ap (λ (k : ℕ). drop k es) (sym (add-one i)))

  no_entry : (i : ℕ) → i ≡ n → drop i es ≡ []
  no_entry i e = ap (λ (k : ℕ). drop k es) (e ∙ sym long) ∙ drop-length es

  pub small_at : (i : ℕ) (d : Entry) → i < n → All SmallEntry es → SmallEntry (get_or list i d)
  small_at i d h a = subst SmallEntry (get_or-take n list i d h) (all_at SmallEntry es i d (omega (arith, long)) a)

  -- one more mark is compared; all are
  pub marks_next : (l : List ℕ) (from i : ℕ) (d : Entry) (b : Bool) → i < n → b ≡ is_mark (mark_at l from i) (get_or list i d)
      → same_marks (marks_from l from i (n - i)) (drop i es) ≡ (b && same_marks (marks_from l from (i + 1) (n - (i + 1))) (drop (i + 1) es))
  unfolding same_marks marks_from
  marks_next l from i d b h e =
      let k : n - i ≡ suc (n - (i + 1)) = omega arith in
      rw (k, next_entry i d h, ← e, ← add-one i)

  pub marks_end : (l : List ℕ) (from i : ℕ) → i ≡ n → same_marks (marks_from l from i (n - i)) (drop i es) ≡ true
  unfolding same_marks marks_from
  marks_end l from i e = let z : n - i ≡ 0 = omega arith in rw (z, no_entry i e)

  pub marks-none : (l : List ℕ) (from k : ℕ) → (k ≡ n → ⊥) → false ≡ same_marks (marks_from l from 0 k) es
  marks-none l from k h = sym (marks_differ l from 0 k es (λ q. h (q ∙ long)))

  -- one more mark is stored; all are
  pub put_more : (l : List ℕ) (from i : ℕ) (d : Entry) → i < n
      → put_marks l from i (drop i es)
      ≡ put_marks (set (set l (from + mark_size * i) (get_or list i d).object) (from + mark_size * i + 1) (get_or list i d).state) from (i + 1)
      (drop (i + 1) es)
  unfolding put_marks
  put_more l from i d h = rw (next_entry i d h, add-one i)

  pub put_all : (l m : List ℕ) (i : ℕ) → i ≡ n → put_marks l shown_from 0 es ≡ put_marks m shown_from i (drop i es) → set m 1 n ≡ put_shown l es
  unfolding put_marks
  put_all l m i e h = let g : put_marks l shown_from 0 es ≡ m = h ∙ rw (no_entry i e) in rw (g, long)

-- ---- a session that is all zero

pub emptied_of : (old new : List ℕ) → take (0 + session_size) new ≡ take 0 old ++ replicate session_size 0
    → drop (0 + session_size) new ≡ drop (0 + session_size) old → new ≡ emptied old
unfolding emptied
emptied_of old new front back = over_of (replicate session_size 0) new old session_size refl front back
