-- A step judged on a shown list, a refusal's number or the list after it, and a history replayed (document 01, "Sessions" and the order of
-- refusals). Assumes nothing.
-- For the proofs: no public promise rests on what this page says.
use Rattle.std.specs.Prelude.{ℕ, ◌+◌, ◌≤◌, ◌≡◌, Bool, cond, ◌&&◌, ◌||◌, List, [], ◌∷◌, ◌++◌, eqb, length}
use Rattle.scene.specs.declared.Entry.{Entry}
use Rattle.scene.specs.declared.Step.{Step}
use Rattle.scene.specs.Painting.{Room}
use Rattle.scene.specs.Steps.{Scene, same_box, clash, some, without, allowed, applied, refusal, replay, replays}
use Rattle.stored.specs.declared.Shown.{Shown}
use Rattle.stored.specs.Bytes.{entries, session_of}
use Rattle.replay.specs.declared.Spot.{Spot}
use Rattle.replay.specs.declared.tables.Tables.{Tables}
use Rattle.replay.specs.Tables.{room_of_tables}
use Rattle.replay.specs.Places.{places_in}

pub data Plan : Type 0 where
  no : ℕ → Plan
  ok : List Entry → Plan

-- a step after n others
unfoldable pub judged : Room → ℕ → Scene → Step → Plan
judged room n sc st = let k = refusal room n sc st in cond (eqb k 0) (ok (applied room sc st).shown) (no k)

-- ---- the code's own values

-- the room that a caller's tables tell
abbrev pub room_of : Tables → Room
room_of t = room_of_tables t.objects.rows.now t.verdicts.now t.objects.size

abbrev pub plan_of : Shown → Plan
plan_of s = cond (eqb s.refusal 0) (ok (entries s)) (no s.refusal)

-- the replay of a history from the scene g: refused or not, its list, and the table of its last places
pub record Replayed (room : Room) (g : Scene) (h : List Step) (places : List ℕ) (r : Shown) : Type 0 where
  pub right : eqb r.refusal 0 ≡ replays room g h
  pub list : r.refusal ≡ 0 → entries r ≡ (replay room g h).shown
  pub few : r.n ≤ length g.shown + length h
  pub last : r.refusal ≡ 0 → places_in places ≡ (replay room g h).last

-- the scene that a stored session's history is replayed from
abbrev pub base_of : Room → (session : List ℕ) → Scene
base_of room l = (session_of room l).base

-- an entry goes when e is drawn (boxes true): of one object or of one box; when e's object is hidden: of that object
abbrev pub goes : Room → Bool → Entry → Entry → Bool
goes room boxes e f = eqb f.object e.object || (boxes && same_box room f e)

-- the entry of an object's image at a place
abbrev pub entry_at : ℕ → ℕ → Spot → Entry
entry_at o s at = record { object = o; state = s; x = at.x; y = at.y }

-- a draw of the entry e, whose image's own refusal is k
abbrev pub drawn_on : Room → ℕ → Entry → List Entry → Plan
drawn_on room k e es =
    cond (allowed room e) (cond (eqb k 0) (ok (without (λ f. clash room f e) es ++ e ∷ [])) (no k)) (no 12)

-- a hide of the object o
abbrev pub hidden_on : ℕ → List Entry → Plan
hidden_on o es = cond (some (λ e. eqb e.object o) es) (ok (without (λ e. eqb e.object o) es)) (no 11)
