-- Laws of runs: a room's refusal is 1 to 8 and a call's number at most 13; what stands at a place of the numbers. Assumes nothing.
use Rattle.std.proofs.Common.{ℕ, zero, suc, ◌+◌, ◌≤◌, ◌<◌, ◌≡◌, refl, sym, ap, ◌∙◌, Bool, true, false, cond, not, ◌&&◌, List, [], ◌∷◌, arith, add-one, eqb, leb, length, get_or, set, length-set, get_or-set_same, get_or-set_other, Option, Some, None, Result, Ok, Err}
use mathlib.Core.Logic.{by_cases}
use native.Mathlib.Decide.{ℕ_discrete}
use Rattle.block.specs.Tree.{well_formed}
use Rattle.room.specs.Head.{head_of, head_in, sized, sizes_right, objects_right, trns_in, holds_index, needed_in, room_of}
use Rattle.room.specs.Test.{strips, pictures_test, short, room_when_passed, after_head, room_test}
use Rattle.room.specs.declared.Lent as room-lent
use Rattle.room.specs.declared.Parts.{Parts}
use Rattle.room.specs.declared.Room as room
use Rattle.scene.specs.Painting.{Room}
use Rattle.scene.specs.Steps.{Scene, some, allowed, entry_of, refusal, most_steps}
use Rattle.scene.specs.declared.Call.{Call}
use Rattle.scene.specs.declared.Call.TheVariants.{Make, TakeBack}
use Rattle.scene.specs.Calls.{after_all}
use Rattle.scene.specs.Session.{State, right_for, scene_of, unmade, tried, called, refused}
use Rattle.scene.specs.declared.Step.{Step}
use Rattle.scene.specs.declared.Step.TheVariants.{Draw, Hide}
use Rattle.layers.specs.Decoded.{decoded}
use Rattle.play.specs.Bytes.{lent, Lent, call_test, after_call, number_of, played}
use Rattle.play.specs.Calls.{state_of, call_number}
use Rattle.verdict.proofs.VerdictLaws.{LowTest, low_im, low-fault}
use Rattle.call_list.specs.Coded.{call_at, calls_of}
use Rattle.call_list.specs.Run.{played_number, put_first}

-- ---- a room's refusal

abbrev pub LowTested : Result room.Room ℕ → Type 0
LowTested (Ok r) = Unit {0}
LowTested (Err n) = (1 ≤ n) × (n ≤ 8)

low-sized : (r : room.Room) → LowTested (sized r)
unfolding sized
low-sized r = on (sizes_right r.width r.height r.planes r.objects)
  where
    on : (t : Bool) → LowTested (cond t (Ok r) (Err 3))
    on true = tt
    on false = omega arith

low_needed : (s : List ℕ) (n : Option Parts) → LowTested (head_in s n)
low_needed s None = omega arith
low_needed s (Some p) = on (objects_right s && holds_index (trns_in s))
  where
    on : (t : Bool) → LowTested (cond t (sized (room_of s p)) (Err 2))
    on true = low-sized (room_of s p)
    on false = omega arith

low_head : (s : List ℕ) → LowTested (head_of s)
unfolding head_of
low_head s = on (well_formed s)
  where
    on : (t : Bool) → LowTested (cond t (head_in s (needed_in s)) (Err 1))
    on true = low_needed s (needed_in s)
    on false = omega arith

low-pictures : (s : List ℕ) (r : room.Room) → LowTest (pictures_test s r)
unfolding pictures_test
low-pictures s r = low_im r.planes (strips r) r.height s r.image r.image_end r.smap r.smap_end

low_or : (t : Result (Unit {0}) ℕ) (r : room.Room) → LowTest t → LowTested (room_when_passed t r)
low_or (Ok tt) r h = tt
low_or (Err n) r h = h

low-after : (lent : room-lent.Lent) (s : List ℕ) (t : Result room.Room ℕ) → LowTested t → LowTested (after_head lent s t)
unfolding after_head
low-after lent s (Err n) h = h
low-after lent s (Ok r) h = on (short lent r)
  where
    on : (t : Bool) → LowTested (cond t (Err 4) (room_when_passed (pictures_test s r) r))
    on true = omega arith
    on false = low_or (pictures_test s r) r (low-pictures s r)

pub low-room : (lent : room-lent.Lent) (s : List ℕ) → LowTested (room_test lent s)
unfolding room_test
low-room lent s = low-after lent s (head_of s) (low_head s)

-- ---- a call's number

low-cond : (t : Bool) (a b : ℕ) → a ≤ 13 → b ≤ 13 → cond t a b ≤ 13
low-cond true a b p q = p
low-cond false a b p q = q

module _ (s : List ℕ) (r : room.Room) where
  abbrev D : Room
  D = decoded s r

  low-refusal : (n : ℕ) (sc : Scene) (st : Step) → refusal D n sc st ≤ 13
  unfolding refusal decoded
  low-refusal n sc (Draw o st p) =
      low-cond (leb most_steps n) 10 _ (omega arith)
      (low-cond (not (D.drawable o st)) 11 _ (omega arith)
      (low-cond (not (allowed D (entry_of sc o st p))) 12 _ (omega arith)
      (omega (arith, low-fault r.planes s o st))))
  low-refusal n sc (Hide o) =
      low-cond (leb most_steps n) 10 _ (omega arith)
      (low-cond (some (λ e. eqb e.object o) sc.shown) 0 11 (omega arith) (omega arith))

  low-unmade : (h : List Step) (b : State) → (unmade D h b).number ≤ 13
  unfolding unmade
  low-unmade [] b = omega arith
  low-unmade (st ∷ h) b = omega arith

  low-tried : (b : State) (c : Call) → (tried D b c).number ≤ 13
  unfolding tried
  low-tried b (Make st) = low-refusal (length b.session.history) (scene_of D b.session) st
  low-tried b TakeBack = low-unmade b.session.history b

  low-called : (b : State) (c : Call) → (called D b c).number ≤ 13
  unfolding called
  low-called b c = on (right_for D b.session)
    where
      on : (t : Bool) → (cond t (tried D b c) (refused 9 b)).number ≤ 13
      on true = low-tried b c
      on false = omega arith

pub low-call : (s : List ℕ) (x : Lent) (c : Call) → number_of s x c ≤ 13
low-call s x c = on (call_test s x) (low-room _ s)
  where
    on : (t : Result room.Room ℕ) → LowTested t → call_number s x.session x.pixels x.masks c t ≤ 13
    on (Ok r) h = low-called s r (state_of (decoded s r) x.session x.pixels x.masks) c
    on (Err n) h = omega arith

-- ---- playing on

pub put_length : (f : ℕ → ℕ) (n : ℕ) (old : List ℕ) → length (put_first f n old) ≡ length old
unfolding put_first
put_length f zero old = refl
put_length f (suc n) old = length-set (put_first f n old) n (f n) ∙ put_length f n old

pub put_at : (f : ℕ → ℕ) (n : ℕ) (old : List ℕ) → n ≤ length old → (i : ℕ) → i < n → get_or (put_first f n old) i 0 ≡ f i
unfolding put_first
put_at f zero old le i lt = absurd (omega arith)
put_at f (suc n) old le i lt =
    by_cases (ℕ_discrete i n) (λ e. rw e (get_or-set_same (put_first f n old) n (f n) 0 (omega (arith, put_length f n old))))
    (λ d. get_or-set_other (put_first f n old) n i (f n) 0 d ∙ put_at f n old (omega arith) i (omega arith))

-- a turn: the bytes y and the numbers `now` after i calls, and call i played on them
module _ (s : List ℕ) (x y : Lent) (l : List ℕ) (i : ℕ) (e : y ≡ played s x (calls_of l i)) where
  pub turn_bytes : (z : Lent) → z ≡ after_call s y (call_at l i) → z ≡ played s x (calls_of l (i + 1))
  unfolding after_all played calls_of
  turn_bytes z f = f ∙ ap (λ (w : Lent). after_call s w (call_at l i)) e ∙ ap (λ (k : ℕ). played s x (calls_of l k)) (sym (add-one i))

  pub turn_numbers : (m : ℕ) (now old : List ℕ) → m ≡ number_of s y (call_at l i) → now ≡ put_first (played_number s x l) i old
      → set now i m ≡ put_first (played_number s x l) (i + 1) old
  unfolding put_first
  turn_numbers m now old f g =
      (λ j. set (g j) i ((f ∙ ap (λ (w : Lent). number_of s w (call_at l i)) e) j))
      ∙ ap (λ (k : ℕ). put_first (played_number s x l) k old) (sym (add-one i))
