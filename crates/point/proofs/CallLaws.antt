-- The answer of the point question, from the session's list as the tables settle it.
use Rattle.std.proofs.Common.{ℕ, zero, suc, ◌≤◌, ◌<◌, ◌≡◌, refl, sym, ap, ◌∙◌, true, false, List, lt-ltb, le-ltb, eq-eqb, ne_eqb, eqb, get_or, Option, Some, Result, Ok, Err}
use Rattle.room.specs.declared.Room as room
use Rattle.scene.specs.Painting.{Room}
use Rattle.scene.specs.Steps.{Scene}
use Rattle.scene.specs.Session.{right_for, scene_of}
use Rattle.stored.specs.Bytes.{session_of, steps_of, readable, entries}
use Rattle.replay.specs.Places.{scene_in}
use Rattle.replay.specs.Replay.{plan_of}
use Rattle.session.specs.Plans.{valid_shown, LastPlaces}
use Rattle.replay.specs.Tables.{TablesAgree, room_of_tables}
use Rattle.stored.specs.declared.Shown.{Shown}
use Rattle.session.proofs.Caller.{valid_known}
use Rattle.replay.proofs.JudgedLaws.{plan-means}
use Rattle.session.proofs.BridgeLaws.{replay_is}
use Rattle.layers.specs.Decoded.{decoded}
use Rattle.verdict.specs.Size.{size_of}
use Rattle.point.specs.Objects.{objects_of}
use Rattle.point.specs.Point.{object_at}
use Rattle.point.specs.Call.{found, asked}

pub found_some : (o : ℕ) → (o ≡ 0 → ⊥) → Ok (Some o) ≡ found o
found_some zero f = absurd (f refl)
found_some (suc o) f = refl

module _ (s : List ℕ) (r : room.Room) (t v l flags : List ℕ) (x y : ℕ) (K : TablesAgree (decoded s r) t v (size_of r) (readable l)) (shown : Shown)
    (q : plan_of shown ≡ valid_shown (room_of_tables t v (size_of r)) l) where
  abbrev D : Room
  D = decoded s r

  means : (eqb shown.refusal 0 ≡ right_for D (session_of D l)) × (shown.refusal ≡ 0 → entries shown ≡ (session_of D l).shown)
  unfolding valid_shown
  means = plan-means shown (right_for D (session_of D l)) 9 (session_of D l).shown (q ∙ sym (valid_known D t v (size_of r) l K))

  pub asked_wrong : (shown.refusal ≡ 0 → ⊥) → Err 9 ≡ asked s r l flags x y
  unfolding asked
  asked_wrong f = let w : right_for D (session_of D l) ≡ false = sym means.0 ∙ ne_eqb shown.refusal 0 f in rw w

  module _ (z : shown.refusal ≡ 0) where
    right : right_for D (session_of D l) ≡ true
    right = sym means.0 ∙ eq-eqb shown.refusal 0 z

    pub asked-right_of : r.width ≤ x → Err 14 ≡ asked s r l flags x y
    unfolding asked
    asked-right_of h = rw (right, le-ltb x r.width h)

    module _ (across : x < r.width) where
      pub asked-below : r.height ≤ y → Err 14 ≡ asked s r l flags x y
      unfolding asked
      asked-below h = rw (right, lt-ltb x r.width across, le-ltb y r.height h)

      pub asked_in : y < r.height → (p : Result (Option ℕ) ℕ) (places : List ℕ)
          → LastPlaces (room_of_tables t v (size_of r)) l (get_or l 0 0) places
          → p ≡ found (object_at (objects_of s) (scene_in places (entries shown)) flags x y) → p ≡ asked s r l flags x y
      unfolding asked scene_of session_of
      asked_in h p places k f =
          let last = k ∙ sym (ap (λ (c : Scene). c.last) (replay_is D t v (size_of r) (readable l) K l (steps_of l))) in
          let same : scene_in places (entries shown) ≡ scene_of D (session_of D l) = λ i. record { shown = means.1 z i; last = last i } in
          f ∙ ap (λ (c : Scene). found (object_at (objects_of s) c flags x y)) same
          ∙ rw (right, lt-ltb x r.width across, lt-ltb y r.height h)
