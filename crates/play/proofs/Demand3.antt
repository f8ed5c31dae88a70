-- Demand 3 of the calls themselves: their contracts, on bytes that hold a right session with surfaces painted accordingly, are crate scene's
-- calls at the decoded room, so that every list of draws, hides and take-backs, refused ones included, agrees with document 01's step list, byte
-- for byte. What an accepted load leaves are such bytes.
use Rattle.std.proofs.Common.{◌≡◌, refl, sym, ap, subst, ◌∙◌, Bool, true, false, cond, List, [], ◌∷◌, ℕ, ◌+◌, ◌≤◌, arith, eqb, length, drop, replicate, length-set, length-append, length-drop, Ok}
use lib.ListN.{length-replicate}
use Rattle.number.specs.Buffer.{over}
use Rattle.room.specs.Head.{Sound}
use Rattle.room.specs.Test.{room_test, with_surfaces}
use Rattle.room.specs.declared.Room as room
use Rattle.room.proofs.TestLaws.{test-passes, surfaces-long}
use Rattle.load.proofs.LoadLaws.{load-test}
use Rattle.scene.specs.Painting.{Room, Surfaces, pixel_layout, mask_layout, painted}
use Rattle.scene.specs.declared.Call.{Call}
use Rattle.scene.specs.declared.Call.TheVariants.{Make, TakeBack}
use Rattle.scene.specs.declared.Entry.{Entry}
use Rattle.scene.specs.Calls.{after_all}
use Rattle.scene.specs.Session.{State, Outcome, called, loaded, state_from, state_after}
use Rattle.scene.proofs.Reading.{length-rebuilt}
use Rattle.scene.proofs.Demand3 as scene
use Rattle.scene.proofs.Demand3.{CallAgrees}
use Rattle.stored.specs.Bytes.{put_marks, put_history, put_call, emptied}
use Rattle.stored.proofs.BytesLaws.{length-marks}
use Rattle.stored.specs.Layout.{shown_from, session_size}
use Rattle.layers.specs.Decoded.{decoded}
use Rattle.play.specs.Calls.{state_of, kept}
use Rattle.play.specs.Bytes.{Lent, test_of, call_test, after_load, after_call, number_of, played, bytes_after}
use Rattle.play.proofs.CallLaws.{session-kept}
use Rattle.play.proofs.LoadedLaws.{loaded_is}

-- the session and the surfaces that lent bytes hold
abbrev pub held : List ℕ → room.Room → Lent → State
held s r x = state_of (decoded s r) x.session x.pixels x.masks

-- bytes to start from: the room passes its test with them, their session is right for it, and their surfaces are lent ones painted with its list
pub record Begins (s : List ℕ) (r : room.Room) (lent : Surfaces) (x : Lent) : Type 0 where
  pub test : call_test s x ≡ Ok r
  pub start : scene.Starts (decoded s r) lent (held s r x)

-- ---- lengths stay

history-length : (l : List ℕ) (c : Call) → length (put_history l c) ≡ length l
history-length l (Make st) = simp length-set
history-length l TakeBack = simp length-set

put_length : (l : List ℕ) (c : Call) (es : List Entry) → length (put_call l c es) ≡ length l
put_length l c es = length-set (put_marks (put_history l c) shown_from 0 es) 1 (length es) ∙ length-marks shown_from (put_history l c) 0 es ∙ history-length l c

kept-length : (l : List ℕ) (c : Call) (o : Outcome) → length (kept l c o) ≡ length l
kept-length l c o = go (eqb o.number 0)
  where
    go : (t : Bool) → length (cond t (put_call l c o.after.session.shown) l) ≡ length l
    go true = put_length l c o.after.session.shown
    go false = refl

over-length : (xs d : List ℕ) → length xs ≤ length d → length (over xs d) ≡ length d
unfolding over
over-length xs d le = length-append xs (drop (length xs) d) ∙ ap (λ (n : ℕ). length xs + n) (length-drop (length xs) d) ∙ omega arith

module _ (s : List ℕ) (r : room.Room) (b : Lent) (accepted : call_test s b ≡ Ok r) where
  -- bytes as long as those lent pass the test as they did
  test_again : (x : Lent) → length x.session ≡ length b.session → length x.pixels ≡ length b.pixels → length x.masks ≡ length b.masks
      → call_test s x ≡ Ok r
  test_again x e f g = (λ i. room_test (with_surfaces session_size (e i) (f i) (g i)) s) ∙ accepted

  long : session_size ≤ length b.session
  long =
      (surfaces-long session_size (length b.session) (length b.pixels) (length b.masks) r
      (test-passes (with_surfaces session_size (length b.session) (length b.pixels) (length b.masks)) s r (sym accepted)).enough).0

  sound : Sound s r
  sound = (test-passes (with_surfaces session_size (length b.session) (length b.pixels) (length b.masks)) s r (sym accepted)).sound

-- ---- the bytes after every list of calls

module _ (s : List ℕ) (r : room.Room) (lent : Surfaces) (x : Lent) (begins : Begins s r lent x) where
  abbrev D : Room
  D = decoded s r

  abbrev state : List Call → State
  state cs = state_from D (held s r x) cs

  -- surfaces of a state that scene's calls reach are the lent ones, painted with some list
  surfaces_of : (cs : List Call) → (es : List Entry) × ((state cs).surfaces ≡ painted D es lent)
  unfolding after_all state_from
  surfaces_of [] = (_, begins.start.surfaces)
  surfaces_of (c ∷ cs) = (_, (scene.demand3 D lent (held s r x) begins.start cs c).surfaces)

  pub record Reached (cs : List Call) : Type 0 where
    pub test : call_test s (played s x cs) ≡ Ok r
    pub size : length (played s x cs).session ≡ length x.session
    pub state : held s r (played s x cs) ≡ state_from D (held s r x) cs

  as_long : (cs : List Call) (y : Lent) → held s r y ≡ state cs → (length y.pixels ≡ length lent.pixels) × (length y.masks ≡ length lent.masks)
  as_long cs y h =
      let p = surfaces_of cs in
      let q = ap (λ (t : State). t.surfaces) h ∙ p.1 in (
        ap (λ (t : Surfaces). length t.pixels) q ∙ length-rebuilt (pixel_layout D) p.0 (λ k. true) lent.pixels,
        ap (λ (t : Surfaces). length t.masks) q ∙ length-rebuilt (mask_layout D) p.0 (λ k. true) lent.masks,
      )

  same_lengths : (cs : List Call) (y : Lent) → length y.session ≡ length x.session → held s r y ≡ state cs → call_test s y ≡ Ok r
  unfolding after_all state_from
  same_lengths cs y e h =
      let there = as_long cs y h in
      let here = as_long [] x refl in
      test_again s r x begins.test y e (there.0 ∙ sym here.0) (there.1 ∙ sym here.1)

  call_state : (y : Lent) (c : Call) → call_test s y ≡ Ok r → session_size ≤ length y.session → held s r (after_call s y c) ≡ (called D (held s r y) c).after
  call_state y c e le =
      rw e (λ i. record { session = session-kept D y.session le (held s r y).surfaces c i; surfaces = (called D (held s r y) c).after.surfaces })

  pub reached : (cs : List Call) → Reached cs
  unfolding after_all played state_from
  reached [] = record { test = begins.test; size = refl; state = refl }
  reached (c ∷ cs) = go (reached cs)
    where
      go : Reached cs → Reached (c ∷ cs)
      go R =
          let y = played s x cs in
          let n : length (after_call s y c).session ≡ length x.session = rw R.test (kept-length y.session c (called D (held s r y) c) ∙ R.size) in
          let h : held s r (after_call s y c) ≡ (called D (state cs) c).after =
          call_state y c R.test (rw R.size (long s r x begins.test)) ∙ ap (λ (t : State). (called D t c).after) R.state in
          record { test = same_lengths (c ∷ cs) (after_call s y c) n h; size = n; state = h }

  -- a call's number is the number of scene's call
  pub numbers : (cs : List Call) (c : Call) → number_of s (played s x cs) c ≡ (called D (state cs) c).number
  numbers cs c = let R = reached cs in rw R.test (ap (λ (t : State). (called D t c).number) R.state)

  -- demand 3, of a call c made after the calls cs: what the contracts promise of the bytes is what document 01's step list says
  pub demand3 : (cs : List Call) (c : Call)
      → (number_of s (played s x cs) c ≡ (called D (state cs) c).number)
      × (held s r (played s x (c ∷ cs)) ≡ state (c ∷ cs))
      × CallAgrees D lent (held s r x) cs c
  demand3 cs c = (numbers cs c, (reached (c ∷ cs)).state, scene.demand3 D lent (held s r x) begins.start cs c)

-- ---- a load leaves such bytes

module _ (s : List ℕ) (r : room.Room) (b : Lent) (accepted : test_of s b ≡ Ok r) where
  abbrev lent : Surfaces
  lent = record { pixels = b.pixels; masks = b.masks }

  -- a call's test passes where the load's does
  passed : call_test s b ≡ Ok r
  passed = sym (load-test s b.session b.pixels b.masks) ∙ accepted

  emptied-length : length (emptied b.session) ≡ length b.session
  unfolding emptied
  emptied-length = over-length (replicate session_size 0) b.session (rw length-replicate (long s r b passed))

  load_state : held s r (after_load s b) ≡ loaded (decoded s r) lent
  load_state = rw accepted (loaded_is s r (sound s r b passed) b.session b.pixels b.masks)

  test-after : call_test s (after_load s b) ≡ Ok r
  unfolding loaded
  test-after =
      test_again s r b passed (after_load s b) (rw accepted emptied-length)
      (ap (λ (t : State). length t.surfaces.pixels) load_state ∙ length-rebuilt (pixel_layout (decoded s r)) [] (λ k. true) b.pixels)
      (ap (λ (t : State). length t.surfaces.masks) load_state ∙ length-rebuilt (mask_layout (decoded s r)) [] (λ k. true) b.masks)

  pub load_begins : Begins s r lent (after_load s b)
  load_begins =
      record {
        test = test-after;
        start = subst (scene.Starts (decoded s r) lent) (sym load_state) (scene.load-starts (decoded s r) lent);
      }

  -- so demand 3 holds from a load on
  pub load_reached : (cs : List Call) → held s r (bytes_after s b cs) ≡ state_after (decoded s r) lent cs
  load_reached cs =
      (reached s r lent (after_load s b) load_begins cs).state ∙ ap (λ (t : State). state_from (decoded s r) t cs) load_state

  pub load_demand3 : (cs : List Call) (c : Call)
      → (number_of s (bytes_after s b cs) c ≡ (called (decoded s r) (state_after (decoded s r) lent cs) c).number)
      × (held s r (bytes_after s b (c ∷ cs)) ≡ state_after (decoded s r) lent (c ∷ cs))
      × CallAgrees (decoded s r) lent (loaded (decoded s r) lent) cs c
  load_demand3 cs c =
      subst
      (λ (t : State). (number_of s (bytes_after s b cs) c ≡ (called (decoded s r) (state_from (decoded s r) t cs) c).number)
      × (held s r (bytes_after s b (c ∷ cs)) ≡ state_from (decoded s r) t (c ∷ cs))
      × CallAgrees (decoded s r) lent t cs c)
      load_state (demand3 s r lent (after_load s b) load_begins cs c)
