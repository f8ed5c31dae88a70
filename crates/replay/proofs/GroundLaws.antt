-- What the laws of a replay ask of its base, the scene that it starts from, and that a stored session's base is so. Which scene that
-- is, is looked at here and in TablesLaws' `base_same` alone. Assumes nothing.
use Rattle.std.proofs.Common.{ℕ, ◌+◌, ◌≤◌, ◌≡◌, refl, true, List, length, arith}
use Rattle.scene.specs.declared.Call.{Call}
use Rattle.scene.specs.declared.Entry.{Entry}
use Rattle.scene.specs.declared.Step.{Step}
use Rattle.scene.specs.Painting.{Room}
use Rattle.scene.specs.Steps.{Scene, Spot, allowed, bare, most_steps}
use Rattle.stored.specs.declared.Shown.{Shown}
use Rattle.stored.specs.Bytes.{All, session_of, put_call}
use Rattle.stored.specs.Layout.{most_shown}
use Rattle.stored.proofs.Lists.{all_map}
use Rattle.replay.specs.Replay.{Replayed, base_of}

-- an entry stands at its object's last place; it is of an image that is there; it can be painted
abbrev pub Standing : (ℕ → Spot) → Entry → Type 0
Standing last e = (e.x ≡ (last e.object).x) × (e.y ≡ (last e.object).y)

abbrev pub There : Room → Entry → Type 0
There room e = room.drawable e.object e.state ≡ true

abbrev pub Fine : Room → Entry → Type 0
Fine room e = There room e × (allowed room e ≡ true) × (room.fault e.object e.state ≡ 0)

-- every entry of g stands at its object's last place and can be painted, and a session has room for these entries and one more of each step
pub record Ground (room : Room) (g : Scene) : Type 0 where
  pub stand : All (Standing g.last) g.shown
  pub fine : All (Fine room) g.shown
  pub short : length g.shown + most_steps ≤ most_shown

pub base_there : (room : Room) (g : Scene) → Ground room g → All (There room) g.shown
base_there room g G = all_map (Fine room) (There room) g.shown (λ e f. f.0) G.fine

pub bare_base : (room : Room) → Ground room (bare room)
unfolding bare
bare_base room = record { stand = tt; fine = tt; short = omega arith }

-- ---- the base of a session that bytes hold

pub session_base : (room : Room) (l : List ℕ) → Ground room (base_of room l)
unfolding session_of
session_base room l = bare_base room

-- a call changes no base
pub base_kept : (room : Room) (l : List ℕ) (c : Call) (es : List Entry) → base_of room (put_call l c es) ≡ base_of room l
unfolding session_of
base_kept room l c es = refl

-- the code's replay, from an empty list and each object's home, starts from it
pub session_replayed : (room : Room) (l : List ℕ) (h : List Step) (places : List ℕ) (r : Shown) → Replayed room (bare room) h places r
    → Replayed room (base_of room l) h places r
unfolding session_of
session_replayed room l h places r R = R
