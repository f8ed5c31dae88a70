-- What a call comes to before anything is written: a refusal's number, or the shown list after it (document 01, "Sessions" and the order
-- of refusals). Assumes nothing.
-- For the proofs: no public promise rests on what this page says.
use Rattle.std.specs.Prelude.{ℕ, ◌+◌, ◌≤◌, ◌≡◌, Bool, true, false, cond, ◌&&◌, ◌||◌, List, [], ◌∷◌, eqb, ltb, length, get_or}
use Rattle.grid.specs.Grid.{upd}
use Rattle.scene.specs.declared.Call.{Call}
use Rattle.scene.specs.declared.Call.TheVariants.{Make, TakeBack}
use Rattle.scene.specs.declared.Entry.{Entry}
use Rattle.scene.specs.declared.Step.{Step}
use Rattle.scene.specs.Painting.{Room, covers}
use Rattle.scene.specs.Steps.{Scene, some, replay, touches, most_steps}
use Rattle.scene.specs.Session.{Session, right_for, scene_of}
use Rattle.stored.specs.declared.Shown.{Shown}
use Rattle.stored.specs.Bytes.{down, step_at, session_of, Storable, put_call, All, SmallEntry, entries}
use Rattle.stored.specs.Layout.{most_shown}
use Rattle.replay.specs.Replay.{Plan, no, ok, judged, plan_of, base_of, goes}
use Rattle.replay.specs.Places.{places_in}

-- 9 exactly if the session is not right for the room
unfoldable pub valid_shown : Room → List ℕ → Plan
valid_shown room l = cond (right_for room (session_of room l)) (ok (session_of room l).shown) (no 9)

-- a take-back of the newest step: 13 where there is none
unfoldable pub undone : Room → (base : Scene) → List Step → Plan
undone room base [] = no 13
undone room base (st ∷ h) = ok (replay room base h).shown

-- a call on a session that is right: a draw or a hide gives 10, 11, 12 or the image's number, a take-back 13
abbrev pub planned_right : Room → Session → Call → Plan
planned_right room ss (Make st) = judged room (length ss.history) (scene_of room ss) st
planned_right room ss TakeBack = undone room ss.base ss.history

-- a call: 9 goes first
unfoldable pub planned : Room → List ℕ → Call → Plan
planned room l c = let ss = session_of room l in cond (right_for room ss) (planned_right room ss c) (no 9)

-- the number of a plan, and the bytes that it leaves: a refusal changes none
abbrev pub number_of : Plan → ℕ
number_of (no k) = k
number_of (ok es) = 0

abbrev pub bytes_kept : List ℕ → Call → Plan → List ℕ
bytes_kept l c (no k) = l
bytes_kept l c (ok es) = put_call l c es

-- the strips that a call rebuilds: those that the step touches which it makes or takes back
unfoldable pub newest_touches : Room → (base : Scene) → List Step → ℕ → Bool
newest_touches room base [] k = false
newest_touches room base (st ∷ h) k = touches room (replay room base h) st k

abbrev pub call_touches : Room → Session → Call → ℕ → Bool
call_touches room ss (Make st) = touches room (scene_of room ss) st
call_touches room ss TakeBack = newest_touches room ss.base ss.history

-- a byte for each of 128 strips, 1 where the test passes; later bytes stay
abbrev pub flag : Bool → ℕ
flag true = 1
flag false = 0

unfoldable pub flagged : (ℕ → Bool) → ℕ → List ℕ → List ℕ
flagged f n l = upd (λ k old. cond (ltb k n) (flag (f k)) old) l

-- ---- the code's own values

-- where the test passes and, where old marks are kept, where a 1 stands
abbrev pub marks : (old : List ℕ) → (keep : Bool) → (ℕ → Bool) → ℕ → Bool
marks old keep f k = (keep && eqb (get_or old k 0) 1) || f k

-- f covers the strip k, and goes when e is drawn (boxes true) or e's object is hidden
abbrev pub leaves : Room → (boxes : Bool) → Entry → (k : ℕ) → Entry → Bool
leaves room boxes e k f = goes room boxes e f && covers room f k

-- e, where it is drawn, covers the strip k, or an entry that goes then does
abbrev pub changed : Room → (boxes : Bool) → Entry → List Entry → ℕ → Bool
changed room boxes e es k = (boxes && covers room e k) || some (leaves room boxes e k) es

-- the table has the last places after the first n steps of a session
abbrev pub LastPlaces : Room → (session : List ℕ) → (n : ℕ) → (places : List ℕ) → Type 0
LastPlaces room l n places = places_in places ≡ (replay room (base_of room l) (down (step_at l) n)).last

-- r is the list of a session that is right, and the table has its last places; or 9
pub record ValidList (room : Room) (l places : List ℕ) (r : Shown) : Type 0 where
  pub plan : plan_of r ≡ valid_shown room l
  pub few : r.n ≤ most_shown
  pub counted : r.refusal ≡ 0 → (r.n ≤ length (base_of room l).shown + get_or l 0 0) × (get_or l 0 0 ≤ most_steps)
  pub last : r.refusal ≡ 0 → LastPlaces room l (get_or l 0 0) places

-- r is what the call c comes to on the session l: its plan and, where it is accepted, what is to be stored and the strips to rebuild
pub record Planned (room : Room) (l : List ℕ) (c : Call) (strips marked : List ℕ) (r : Shown) : Type 0 where
  pub plan : plan_of r ≡ planned room l c
  pub few : r.n ≤ most_shown
  pub storable : r.refusal ≡ 0 → Storable l c × All SmallEntry (entries r)
  pub touched : r.refusal ≡ 0 → marked ≡ flagged (call_touches room (session_of room l) c) 128 strips
