-- What a caller cites: a call on the session's bytes is scene's `called` on the session that they hold, for any room that the tables tell.
-- Assumes nothing.
use Rattle.std.proofs.Common.{ℕ, suc, ◌+◌, ◌*◌, ◌<◌, ◌≤◌, ◌≡◌, refl, sym, ap, subst, ◌∙◌, Bool, true, false, cond, List, [], ◌∷◌, eqb, leb, get_or, length, length-append, arith, eqb-true, eq-eqb, leb-false}
use Rattle.scene.specs.declared.Call.{Call}
use Rattle.scene.specs.declared.Call.TheVariants.{Make, TakeBack}
use Rattle.scene.specs.declared.Entry.{Entry}
use Rattle.scene.specs.declared.Step.{Step}
use Rattle.scene.specs.declared.Step.TheVariants.{Draw, Hide}
use Rattle.scene.specs.Painting.{Room, Surfaces}
use Rattle.scene.specs.Steps.{Scene, without, entry_of, removes, adds, applied, refusal, replay, replays, most_steps}
use Rattle.scene.specs.Session.{Session, State, right_for, scene_of, refused, made, unmade, tried, called}
use Rattle.replay.specs.declared.Size.{Size}
use Rattle.replay.specs.Tables.{names, draws, room_of_tables, TablesAgree, asked_by}
use Rattle.stored.specs.Bytes.{step_at, steps_of, readable, session_of, put_shown, all_placed, marks_from, put_history, put_call}
use Rattle.replay.specs.Replay.{no, ok, judged, base_of}
use Rattle.session.specs.Plans.{valid_shown, planned_right, planned, undone, number_of, bytes_kept}
use Rattle.replay.proofs.Lists.{append-nil}
use Rattle.number.proofs.BoolLaws.{or_left, or_right}
use Rattle.session.proofs.BridgeLaws.{valid_same, back_same, planned-same}
use Rattle.session.proofs.CalledLaws.{not-nine}
use Rattle.stored.proofs.BytesLaws.{length-down, newest_length, dropped_length, steps-after, steps_dropped, shown_back}
use Rattle.stored.specs.Layout.{session_size, shown_from, mark_size}
use Rattle.replay.proofs.GroundLaws.{Ground, session_base, base_kept}
use Rattle.replay.proofs.ReplayLaws.{all_stand, placed_back, replays-few, accepted-few, right-shown, right-scene}

-- ---- how long a shown list is

without-length : (f : Entry → Bool) (es : List Entry) → length (without f es) ≤ length es
unfolding without
without-length f [] = omega arith
without-length f (e ∷ es) = go (f e) (without-length f es)
  where
    go : (t : Bool) → length (without f es) ≤ length es → length (cond t (without f es) (e ∷ without f es)) ≤ suc (length es)
    go true h = omega arith
    go false h = omega arith

module _ (room : Room) where
  applied-length : (sc : Scene) (st : Step) → length (applied room sc st).shown ≤ suc (length sc.shown)
  unfolding applied adds
  applied-length sc (Draw o s p) =
      let w = without-length (removes room sc (Draw o s p)) sc.shown in
      omega (arith, length-append (without (removes room sc (Draw o s p)) sc.shown) (entry_of sc o s p ∷ []))
  applied-length sc (Hide o) =
      let w = without-length (removes room sc (Hide o)) sc.shown in
      rw (append-nil (without (removes room sc (Hide o)) sc.shown)) (omega arith)

  module _ (g : Scene) where
    replay-length : (h : List Step) → length (replay room g h).shown ≤ length g.shown + length h
    unfolding replay
    replay-length [] = omega arith
    replay-length (st ∷ h) =
        let a = applied-length (replay room g h) st in
        let b = replay-length h in
        omega arith

    -- ---- bytes that keep a base, a history and the list of its replay hold that session

    module _ (G : Ground room g) (m : List ℕ) (h : List Step) where
      abbrev es : List Entry
      es = (replay room g h).shown

      holds : session_size ≤ length m → length h ≤ most_steps → base_of room (put_shown m es) ≡ g → steps_of (put_shown m es) ≡ h
          → session_of room (put_shown m es) ≡ record { base = g; history = h; shown = es }
      unfolding session_of
      holds long few e s =
          let b = put_shown m es in
          let n = replay-length h in
          let short = G.short in
          let k : shown_from + mark_size * length es ≤ length m = omega arith in
          let q : all_placed (replay room (base_of room b) (steps_of b)).last (marks_from b shown_from 0 (get_or b 1 0)) ≡ es =
          (λ i. all_placed (replay room (e i) (s i)).last (shown_back m es k i))
          ∙ placed_back (replay room g h).last es (all_stand room g G h) in
          λ i. record { base = e i; history = s i; shown = q i }

  module _ (l : List ℕ) (long : session_size ≤ length l) (right : right_for room (session_of room l) ≡ true) where
    abbrev ss : Session
    ss = session_of room l

    shown_is : (st : Step) → (applied room (scene_of room ss) st).shown ≡ (replay room ss.base (st ∷ steps_of l)).shown
    unfolding replay
    shown_is st = ap (λ (c : Scene). (applied room c st).shown) (right-scene room l right)

    made_holds : (st : Step) → refusal room (length ss.history) (scene_of room ss) st ≡ 0
        → session_of room (put_call l (Make st) (applied room (scene_of room ss) st).shown)
        ≡ record { base = ss.base; history = st ∷ ss.history; shown = (applied room (scene_of room ss) st).shown }
    unfolding session_of
    made_holds st e =
        let few = accepted-few room (length (steps_of l)) (scene_of room ss) st e in
        let n = length-down (step_at l) (get_or l 0 0) in
        let h = st ∷ steps_of l in
        let es = (replay room ss.base h).shown in
        let c : get_or l 0 0 < most_steps = omega arith in
        let m : session_size ≤ length (put_history l (Make st)) = omega (arith, newest_length l st [] long c) in
        ap (λ (x : List Entry). session_of room (put_call l (Make st) x)) (shown_is st)
        ∙ holds ss.base (session_base room l) (put_history l (Make st)) h m few (base_kept room l (Make st) es) (steps-after l st es long c)
        ∙ (λ i. record { base = ss.base; history = h; shown = sym (shown_is st) i })

    back_holds : (st : Step) (h : List Step) → steps_of l ≡ st ∷ h
        → session_of room (put_call l TakeBack (replay room ss.base h).shown)
        ≡ record { base = ss.base; history = h; shown = (replay room ss.base h).shown }
    back_holds st h e =
        let r = subst (λ (k : List Step). replays room ss.base k ≡ true) e (right-shown room l right).0 in
        let few : suc (length h) ≤ most_steps = replays-few room ss.base (st ∷ h) r in
        let es = (replay room ss.base h).shown in
        let n = sym (length-down (step_at l) (get_or l 0 0)) ∙ ap length e in
        let c : get_or l 0 0 ≤ most_steps = omega arith in
        let m : session_size ≤ length (put_history l TakeBack) = omega (arith, dropped_length l st h es long c e) in
        holds ss.base (session_base room l) (put_history l TakeBack) h m (omega arith) (base_kept room l TakeBack es) (steps_dropped l st h es long c e)

  -- ---- a call's number, and the session after it

  number_case : (t : Bool) (k : ℕ) (es : List Entry) → eqb k 0 ≡ t → k ≡ number_of (cond t (ok es) (no k))
  number_case true k es q = eqb-true k 0 q
  number_case false k es q = refl

  module _ (l : List ℕ) (long : session_size ≤ length l) (lent : Surfaces) where
    abbrev s0 : Session
    s0 = session_of room l

    abbrev b : State
    b = record { session = s0; surfaces = lent }

    make_case : (st : Step) (k : ℕ) (X : State) (es : List Entry) (r : Bool)
        → (r ≡ true → eqb k 0 ≡ true → X.session ≡ session_of room (put_call l (Make st) es))
        → ((cond r (record { number = k; after = cond (eqb k 0) X b }) (refused 9 b)).number ≡ number_of (cond r (cond (eqb k 0) (ok es) (no k)) (no 9)))
        × ((cond r (record { number = k; after = cond (eqb k 0) X b }) (refused 9 b)).after.session
        ≡ session_of room (bytes_kept l (Make st) (cond r (cond (eqb k 0) (ok es) (no k)) (no 9))))
    make_case st k X es false h = (refl, refl)
    make_case st k X es true h = (number_case (eqb k 0) k es refl, go (eqb k 0) refl)
      where
        go : (t : Bool) → eqb k 0 ≡ t → (cond t X b).session ≡ session_of room (bytes_kept l (Make st) (cond t (ok es) (no k)))
        go true q = h refl q
        go false q = refl

    make_called : (st : Step) → ((called room b (Make st)).number ≡ number_of (planned room l (Make st)))
        × ((called room b (Make st)).after.session ≡ session_of room (bytes_kept l (Make st) (planned room l (Make st))))
    unfolding called tried planned judged made
    make_called st =
        let k = refusal room (length s0.history) (scene_of room s0) st in
        let es = (applied room (scene_of room s0) st).shown in
        make_case st k (made room b st) es (right_for room s0)
        (λ r q. sym (made_holds l long r st (eqb-true k 0 q)))

    undone_case : (h : List Step) → steps_of l ≡ h → right_for room s0 ≡ true
        → ((unmade room h b).number ≡ number_of (undone room s0.base h)) ×
        ((unmade room h b).after.session ≡ session_of room (bytes_kept l TakeBack (undone room s0.base h)))
    unfolding unmade undone session_of
    undone_case [] e r = (refl, refl)
    undone_case (st ∷ h) e r = (refl, sym (back_holds l long r st h e))

    back_called : ((called room b TakeBack).number ≡ number_of (planned room l TakeBack))
        × ((called room b TakeBack).after.session ≡ session_of room (bytes_kept l TakeBack (planned room l TakeBack)))
    unfolding called tried planned session_of
    back_called = go (right_for room s0) refl
      where
        go : (r : Bool) → right_for room s0 ≡ r
            → ((cond r (unmade room (steps_of l) b) (refused 9 b)).number ≡ number_of (cond r (undone room s0.base (steps_of l)) (no 9)))
            × ((cond r (unmade room (steps_of l) b) (refused 9 b)).after.session ≡ session_of room
            (bytes_kept l TakeBack (cond r (undone room s0.base (steps_of l)) (no 9))))
        go false q = (refl, refl)
        go true q = undone_case (steps_of l) refl q

    pub called-kept : (c : Call) → ((called room b c).number ≡ number_of (planned room l c))
        × ((called room b c).after.session ≡ session_of room (bytes_kept l c (planned room l c)))
    called-kept (Make st) = make_called st
    called-kept TakeBack = back_called

    -- the list that an accepted call leaves is its plan's
    pub called-shown : (c : Call) → (called room b c).number ≡ 0 → planned room l c ≡ ok (called room b c).after.session.shown
    unfolding called tried planned judged made unmade undone session_of
    called-shown (Make st) = go (right_for room s0)
      where
        go : (t : Bool) → (cond t (tried room b (Make st)) (refused 9 b)).number ≡ 0
            → cond t (planned_right room s0 (Make st)) (no 9) ≡ ok (cond t (tried room b (Make st)) (refused 9 b)).after.session.shown
        go true e = rw (eq-eqb _ 0 e)
        go false e = absurd (not-nine e)
    called-shown TakeBack = go (right_for room s0)
      where
        inner : (h : List Step) → (unmade room h b).number ≡ 0 → undone room s0.base h ≡ ok (unmade room h b).after.session.shown
        inner [] e = absurd (let w : ◌≡◌ {A = ℕ} 13 0 = e in omega arith)
        inner (st ∷ h) e = refl

        go : (t : Bool) → (cond t (unmade room (steps_of l) b) (refused 9 b)).number ≡ 0
            → cond t (undone room s0.base (steps_of l)) (no 9) ≡ ok (cond t (unmade room (steps_of l) b) (refused 9 b)).after.session.shown
        go true e = inner (steps_of l) e
        go false e = absurd (not-nine e)

-- ---- the same by the tables

long_wrong : (room : Room) (l : List ℕ) → leb (get_or l 0 0) most_steps ≡ false → right_for room (session_of room l) ≡ false
long_wrong room l e = go (right_for room (session_of room l)) refl
  where
    go : (t : Bool) → right_for room (session_of room l) ≡ t → t ≡ false
    go true q =
        let few = replays-few room (base_of room l) (steps_of l) (right-shown room l q).0 in
        absurd (omega (arith, leb-false (get_or l 0 0) most_steps e, few, length-down (step_at l) (get_or l 0 0)))
    go false q = refl

module _ (room : Room) (objects verdicts : List ℕ) (size : Size) (l : List ℕ) where
  abbrev T : Room
  T = room_of_tables objects verdicts size

  -- a history that is not too long is read, and its images are known
  read : leb (get_or l 0 0) most_steps ≡ true → readable l ≡ steps_of l
  unfolding readable
  read e = rw e

  pub valid_known : TablesAgree room objects verdicts size (readable l) → valid_shown room l ≡ valid_shown T l
  unfolding valid_shown
  valid_known K = go (leb (get_or l 0 0) most_steps) refl
    where
      go : (t : Bool) → leb (get_or l 0 0) most_steps ≡ t → valid_shown room l ≡ valid_shown T l
      go true q = valid_same room objects verdicts size (readable l) K l (λ o s n. subst (λ (h : List Step). names h o s ≡ true) (sym (read q)) n)
      go false q = rw (long_wrong room l q, long_wrong T l q)

  asked_known : (c : Call) → TablesAgree room objects verdicts size (asked_by c (steps_of l)) → planned room l c ≡ planned T l c
  unfolding names
  asked_known (Make st) K =
      planned-same room objects verdicts size (st ∷ steps_of l) K l (λ o s n. or_right (draws st o s) (names (steps_of l) o s) n) st
      (λ o s n. or_left (draws st o s) (names (steps_of l) o s) n)
  asked_known TakeBack K = back_same room objects verdicts size (steps_of l) K l (λ o s n. n)

  pub planned_known : (c : Call) → TablesAgree room objects verdicts size (asked_by c (readable l)) → planned room l c ≡ planned T l c
  unfolding planned
  planned_known c K = go (leb (get_or l 0 0) most_steps) refl
    where
      go : (t : Bool) → leb (get_or l 0 0) most_steps ≡ t → planned room l c ≡ planned T l c
      go true q = asked_known c (subst (λ (h : List Step). TablesAgree room objects verdicts size (asked_by c h)) (read q) K)
      go false q = rw (long_wrong room l q, long_wrong T l q)
