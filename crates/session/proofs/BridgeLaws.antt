-- The bridge to the tables: a room that they tell has the sessions and the plans of the room made of them. Assumes nothing.
use Rattle.std.proofs.Common.{ℕ, ◌≡◌, refl, ap, ap₂, ◌∙◌, true, cond, ◌&&◌, List, [], ◌∷◌, get_or, length}
use Rattle.scene.specs.declared.Call.{Call}
use Rattle.scene.specs.declared.Call.TheVariants.{Make, TakeBack}
use Rattle.scene.specs.declared.Step.{Step}
use Rattle.scene.specs.Painting.{Room}
use Rattle.scene.specs.Steps.{Scene, touches, replay}
use Rattle.scene.specs.Session.{same_list, right_for, scene_of}
use Rattle.stored.specs.Bytes.{session_of, steps_of, all_placed, marks_from}
use Rattle.stored.specs.Layout.{shown_from}
use Rattle.replay.specs.declared.Size.{Size}
use Rattle.replay.specs.Tables.{room_of_tables, draws, names, TablesAgree}
use Rattle.replay.specs.Replay.{no, ok, judged, base_of}
use Rattle.replay.proofs.TablesLaws.{judged-same, base_same, replay_from, replays_from, touches-same}
use Rattle.session.specs.Plans.{valid_shown, planned, undone, newest_touches, call_touches}

module _ (room : Room) (objects verdicts : List ℕ) (size : Size) (steps : List Step) (K : TablesAgree room objects verdicts size steps) where
  abbrev T : Room
  T = room_of_tables objects verdicts size

  base_is : (l : List ℕ) → base_of room l ≡ base_of T l
  base_is l = base_same room objects verdicts size steps K l

  pub replay_is : (l : List ℕ) (h : List Step) → replay room (base_of room l) h ≡ replay T (base_of T l) h
  replay_is l h = replay_from room objects verdicts size steps K (base_of room l) (base_of T l) (base_is l) h

  pub session-same : (l : List ℕ) → session_of room l ≡ session_of T l
  unfolding session_of
  session-same l =
      λ i. record {
        base = base_is l i;
        history = steps_of l;
        shown = all_placed (replay_is l (steps_of l) i).last (marks_from l shown_from 0 (get_or l 1 0));
      }

  scene_same : (l : List ℕ) → scene_of room (session_of room l) ≡ scene_of T (session_of T l)
  unfolding scene_of session_of
  scene_same l = λ i. record { shown = (session-same l i).shown; last = (replay_is l (steps_of l) i).last }

  undone-same : (l : List ℕ) (h : List Step) → undone room (base_of room l) h ≡ undone T (base_of T l) h
  unfolding undone
  undone-same l [] = refl
  undone-same l (st ∷ h) = ap (λ (sc : Scene). ok sc.shown) (replay_is l h)

  -- the strips that a call rebuilds
  newest_same : (l : List ℕ) (h : List Step) (k : ℕ) → newest_touches room (base_of room l) h k ≡ newest_touches T (base_of T l) h k
  unfolding newest_touches
  newest_same l [] k = refl
  newest_same l (st ∷ h) k =
      ap (λ (sc : Scene). touches room sc st k) (replay_is l h)
      ∙ touches-same room objects verdicts size steps K (replay T (base_of T l) h) st k

  pub touches_known : (l : List ℕ) (c : Call) (k : ℕ) → call_touches room (session_of room l) c k ≡ call_touches T (session_of T l) c k
  unfolding session_of
  touches_known l (Make st) k =
      ap (λ (sc : Scene). touches room sc st k) (scene_same l)
      ∙ touches-same room objects verdicts size steps K (scene_of T (session_of T l)) st k
  touches_known l TakeBack k = newest_same l (steps_of l) k

  module _ (l : List ℕ) (k : (o s : ℕ) → names (steps_of l) o s ≡ true → names steps o s ≡ true) where
    right-bytes : right_for room (session_of room l) ≡ right_for T (session_of T l)
    unfolding right_for session_of
    right-bytes =
        ap₂ ◌&&◌ (replays_from room objects verdicts size steps K (base_of room l) (base_of T l) (base_is l) (steps_of l) k)
        (λ i. same_list (session-same l i).shown (replay_is l (steps_of l) i).shown)

    pub valid_same : valid_shown room l ≡ valid_shown T l
    unfolding valid_shown
    valid_same = λ i. cond (right-bytes i) (ok (session-same l i).shown) (no 9)

    pub back_same : planned room l TakeBack ≡ planned T l TakeBack
    unfolding planned session_of
    back_same = λ i. cond (right-bytes i) (undone-same l (steps_of l) i) (no 9)

    pub planned-same : (st : Step) → ((o s : ℕ) → draws st o s ≡ true → names steps o s ≡ true) → planned room l (Make st) ≡ planned T l (Make st)
    unfolding planned
    planned-same st j =
        let n = length (session_of T l).history in
        let q : judged room (length (session_of room l).history) (scene_of room (session_of room l)) st ≡ judged T n (scene_of T (session_of T l)) st =
        (λ i. judged room (length (session-same l i).history) (scene_same l i) st)
        ∙ judged-same room objects verdicts size steps K n (scene_of T (session_of T l)) st j in
        λ i. cond (right-bytes i) (q i) (no 9)
