-- A call, as the code makes it, is crate scene's `called` at the decoded room.
use Rattle.std.proofs.Common.{◌≡◌, refl, sym, ap, ◌∙◌, Bool, true, false, cond, not, List, ℕ, ◌≤◌, ◌<◌, arith, eqb-true, eq-eqb, ne_eqb, lt-ltb, eqb, ltb, length, get_or, Ok}
use mathlib.Core.Logic.{by_cases}
use native.Mathlib.Decide.{ℕ_discrete}
use Rattle.grid.specs.Grid.{upd}
use Rattle.grid.proofs.Upd.{get_or-upd}
use Rattle.room.specs.Test.{strips}
use Rattle.room.specs.declared.Room as room
use Rattle.scene.specs.Painting.{Room, Layout, Surfaces, pixel_layout, mask_layout, rebuilt_bytes, rebuilt}
use Rattle.scene.specs.Session.{State, Outcome, called}
use Rattle.scene.specs.declared.Call.{Call}
use Rattle.scene.specs.declared.Entry.{Entry}
use Rattle.scene.proofs.Loops.{pixel-strips, mask-strips, rebuilt-alike}
use Rattle.stored.specs.declared.Shown.{Shown}
use Rattle.stored.specs.Bytes.{All, session_of, readable, put_call, entries}
use Rattle.stored.specs.Layout.{session_size}
use Rattle.replay.specs.Replay.{Plan, no, ok, plan_of}
use Rattle.replay.specs.Tables.{TablesAgree, room_of_tables, asked_by}
use Rattle.replay.proofs.JudgedLaws.{plan-ok}
use Rattle.session.specs.Plans.{number_of, planned, bytes_kept, call_touches, flag, flagged}
use Rattle.session.proofs.BridgeLaws.{touches_known}
use Rattle.session.proofs.CalledLaws.{called-refused, called-rebuilt}
use Rattle.session.proofs.Caller.{planned_known, called-kept, called-shown}
use Rattle.layers.specs.Decoded.{decoded, entries_of}
use Rattle.verdict.specs.Size.{size_of}
use Rattle.play.specs.Bytes.{lent, number_by, after_by}
use Rattle.play.specs.Calls.{state_of, kept}
use Rattle.play.proofs.FineLaws.{Fine, planned_fine}

-- the number that a by-value plan holds
plan-number : (r : Shown) → number_of (plan_of r) ≡ r.refusal
plan-number r = go (eqb r.refusal 0) refl
  where
    go : (t : Bool) → eqb r.refusal 0 ≡ t → number_of (cond t (ok (entries r)) (no r.refusal)) ≡ r.refusal
    go true e = sym (eqb-true _ _ e)
    go false e = refl

-- ---- the session's bytes after a call

module _ (l : List ℕ) (c : Call) (o : Outcome) where
  pub kept-refused : (o.number ≡ 0 → ⊥) → kept l c o ≡ l
  kept-refused f = ap (λ (t : Bool). cond t (put_call l c o.after.session.shown) l) (ne_eqb o.number 0 f)

  pub kept-accepted : o.number ≡ 0 → kept l c o ≡ put_call l c o.after.session.shown
  kept-accepted e = ap (λ (t : Bool). cond t (put_call l c o.after.session.shown) l) (eq-eqb o.number 0 e)

-- they are those that the call's plan keeps
refused-plan : (l : List ℕ) (c : Call) (p : Plan) → (number_of p ≡ 0 → ⊥) → bytes_kept l c p ≡ l
refused-plan l c (no k) f = refl
refused-plan l c (ok es) f = absurd (f refl)

module _ (D : Room) (l : List ℕ) (long : session_size ≤ length l) (lent : Surfaces) (c : Call) where
  abbrev b : State
  b = record { session = session_of D l; surfaces = lent }

  pub kept-planned : kept l c (called D b c) ≡ bytes_kept l c (planned D l c)
  kept-planned =
      by_cases (ℕ_discrete (called D b c).number 0)
      (λ e. kept-accepted l c (called D b c) e ∙ sym (ap (bytes_kept l c) (called-shown D l long lent c e)))
      (λ f. kept-refused l c (called D b c) f ∙ sym (refused-plan l c (planned D l c) (λ z. f ((called-kept D l long lent c).0 ∙ z))))

  -- and hold the session that scene's call leaves
  pub session-kept : session_of D (kept l c (called D b c)) ≡ (called D b c).after.session
  session-kept = ap (session_of D) kept-planned ∙ sym (called-kept D l long lent c).1

-- ---- the strips that are rebuilt, as bytes

flag_is : (b : Bool) → not (eqb (flag b) 0) ≡ b
flag_is true = refl
flag_is false = refl

flag_at : (f : ℕ → Bool) (n : ℕ) (l : List ℕ) (k : ℕ) → k < n → n ≤ length l → not (eqb (get_or (flagged f n l) k 0) 0) ≡ f k
unfolding flagged
flag_at f n l k lt le =
    let at : get_or (upd (λ i old. cond (ltb i n) (flag (f i)) old) l) k 0 ≡ cond (ltb k n) (flag (f k)) (get_or l k 0) =
    get_or-upd (λ i old. cond (ltb i n) (flag (f i)) old) l k (omega arith) in
    rw (at, lt-ltb k n lt) (flag_is (f k))

-- a surface rebuilt by the touched bytes and a list of numbers is the surface rebuilt by the definitions
rebuilt_by : (lay : Layout) (n : ℕ) (es fs : List Entry) (f g : ℕ → Bool) (l bytes : List ℕ) → n ≤ length l → ((i : ℕ) → i < lay.size → lay.strip i < n)
    → es ≡ fs → ((k : ℕ) → f k ≡ g k)
    → rebuilt_bytes lay es (λ t. not (eqb (get_or (flagged f n l) t 0) 0)) bytes ≡ rebuilt_bytes lay fs g bytes
rebuilt_by lay n es fs f g l bytes le small same alike =
    ap (λ (x : List Entry). rebuilt_bytes lay x (λ t. not (eqb (get_or (flagged f n l) t 0) 0)) bytes) same
    ∙ rebuilt-alike lay fs fs _ g bytes (λ i. refl) (λ i h. flag_at f n l (lay.strip i) (small i h) le ∙ alike (lay.strip i))

-- ---- the call

module _ (s : List ℕ) (r : room.Room) (t v l px mk : List ℕ) (c : Call) (long : session_size ≤ length l)
    (K : TablesAgree (decoded s r) t v (size_of r) (asked_by c (readable l))) (after : Shown)
    (q : plan_of after ≡ planned (room_of_tables t v (size_of r)) l c) where
  abbrev D : Room
  D = decoded s r

  abbrev T : Room
  T = room_of_tables t v (size_of r)

  abbrev state : State
  state = state_of D l px mk

  told : planned D l c ≡ plan_of after
  told = planned_known D t v (size_of r) l c K ∙ sym q

  pub number_is : after.refusal ≡ number_by s (lent l px mk) c (Ok r)
  number_is = sym ((called-kept D l long state.surfaces c).0 ∙ ap number_of told ∙ plan-number after)

  -- a refusal changes no byte
  pub refused_stays : (after.refusal ≡ 0 → ⊥) → lent l px mk ≡ after_by s (lent l px mk) c (Ok r)
  refused_stays f =
      let e = called-refused D state c (λ z. f (number_is ∙ z)) in
      let p = kept-refused l c (called D state c) (λ z. f (number_is ∙ z)) in
      sym (λ i. record { session = p i; pixels = (e i).surfaces.pixels; masks = (e i).surfaces.masks })

  module _ (y : after.refusal ≡ 0) where
    zero_is : (called D state c).number ≡ 0
    zero_is = sym number_is ∙ y

    accepted : plan_of after ≡ ok (entries after)
    accepted = plan-ok after (entries after) y refl

    shown_is : (called D state c).after.session.shown ≡ entries after
    shown_is = let e = sym (called-shown D l long state.surfaces c zero_is) ∙ told ∙ accepted in cc

    surfaces_are : (called D state c).after.surfaces ≡ rebuilt D (entries after) (call_touches D (session_of D l) c) state.surfaces
    surfaces_are =
        called-rebuilt D state c zero_is
        ∙ ap (λ (es : List Entry). rebuilt D es (call_touches D (session_of D l) c) state.surfaces) shown_is

    pub after_fine : All (Fine D) (entries after)
    after_fine = planned_fine D l c after (sym told) y

    module _ (flat zeros marked : List ℕ) (n : ℕ) (same : entries_of flat n ≡ entries after) (room : 128 ≤ length zeros) (few : strips r ≤ 128)
        (flags : marked ≡ flagged (call_touches T (session_of T l) c) 128 zeros) where
      rebuilt_as : (lay : Layout) (bytes : List ℕ) → ((i : ℕ) → i < lay.size → lay.strip i < 128)
          → rebuilt_bytes lay (entries_of flat n) (λ k. not (eqb (get_or marked k 0) 0)) bytes
          ≡ rebuilt_bytes lay (entries after) (call_touches D (session_of D l) c) bytes
      rebuilt_as lay bytes small =
          ap (λ (m : List ℕ). rebuilt_bytes lay (entries_of flat n) (λ k. not (eqb (get_or m k 0) 0)) bytes) flags
          ∙ rebuilt_by lay 128 (entries_of flat n) (entries after) (call_touches T (session_of T l) c) (call_touches D (session_of D l) c) zeros bytes room
          small same (λ k. sym (touches_known D t v (size_of r) (asked_by c (readable l)) K l c k))

      -- what an accepted call leaves
      pub accepted-leaves : (session pixels masks : List ℕ) → session ≡ put_call l c (entries after)
          → pixels ≡ rebuilt_bytes (pixel_layout D) (entries_of flat n) (λ k. not (eqb (get_or marked k 0) 0)) px
          → masks ≡ rebuilt_bytes (mask_layout D) (entries_of flat n) (λ k. not (eqb (get_or marked k 0) 0)) mk
          → lent session pixels masks ≡ after_by s (lent l px mk) c (Ok r)
      accepted-leaves session pixels masks e f g =
          let sessions = e ∙ sym (kept-accepted l c (called D state c) zero_is ∙ ap (put_call l c) shown_is) in
          let painted = f ∙ rebuilt_as (pixel_layout D) px (λ i h. omega (arith, pixel-strips D i h)) ∙ sym (ap (λ (x : Surfaces). x.pixels) surfaces_are) in
          let masked = g ∙ rebuilt_as (mask_layout D) mk (λ i h. omega (arith, mask-strips D i h)) ∙ sym (ap (λ (x : Surfaces). x.masks) surfaces_are) in
          λ i. record { session = sessions i; pixels = painted i; masks = masked i }
