-- Demand 3, in the customer's words: "Take a session and surfaces as an accepted load has just left them, and any list of draws, hides and
-- take-backs, refused ones included. Each call gets the session as the last one left it, the same room bytes and the same surfaces,
-- written by nobody else meanwhile. For every such list, each call is accepted, or refused with its number, exactly as document 01's step
-- list says. After each call, pixels and masks equal, byte for byte, the room painted afresh with the accepted steps not taken back, in
-- their order; shown list and positions are those that these steps give. Each accepted take-back restores the surfaces, shown list and
-- positions from just before the newest accepted step not yet taken back."
--
-- Said of the bytes: `test_of`, `after_load`, `number_of` and `after_call` (crate play) are what the contracts of kg_load, kg_draw_last,
-- kg_draw_at, kg_hide and kg_take_back promise; `bytes_after` is a load and then each call on what the last one left. The step list (scene
-- `list_answer`, `step_list`) is fed the room and the calls alone. Lists stand newest first.
--
-- Change request 9: "demand 3 is over the painting with that index". `decoded` is the room with its own transparent index, the TRNS block's or 255: page
-- Request9, `paints`, says which pixels of an entry it lets through and which mask rows are joined.
use Rattle.std.specs.Prelude.{ℕ, ◌≡◌, List, [], ◌∷◌, Ok}
use Rattle.room.specs.declared.Room as bytes
use Rattle.scene.specs.Painting.{Room, Surfaces, painted}
use Rattle.scene.specs.Steps.{Scene, bare, replay}
use Rattle.scene.specs.declared.Call.{Call}
use Rattle.scene.specs.declared.Call.TheVariants.{TakeBack}
use Rattle.scene.specs.declared.Step.{Step}
use Rattle.scene.specs.Calls.{befores}
use Rattle.scene.specs.Session.{list_answer, step_list, scene_of}
use Rattle.stored.specs.Bytes.{session_of}
use Rattle.layers.specs.Decoded.{decoded}
use Rattle.play.specs.Bytes.{Lent, test_of, after_load, number_of, after_call, bytes_after}

-- what lent bytes hold: the history, the shown list with the positions, the surfaces
abbrev pub history_in : Room → Lent → List Step
history_in room b = (session_of room b.session).history

abbrev pub scene_in : Room → Lent → Scene
scene_in room b = scene_of room (session_of room b.session)

abbrev pub surfaces_in : Lent → Surfaces
surfaces_in b = record { pixels = b.pixels; masks = b.masks }

-- what steps give: the shown list with the positions
abbrev pub scene_by : Room → List Step → Scene
scene_by room steps = replay room (bare room) steps

-- the bytes that stood just before each accepted step not yet taken back, after the calls cs
abbrev pub bytes_before : List ℕ → Lent → List Call → List Lent
bytes_before s b cs = befores (number_of s) (after_call s) (after_load s b) cs

-- `after` holds what the newest of them held
abbrev pub Restored : Room → Lent → List Lent → Type 0
Restored room after [] = ⊥
Restored room after (newest ∷ before) =
    (surfaces_in after ≡ surfaces_in newest) × (scene_in room after ≡ scene_in room newest) × (history_in room after ≡ history_in room newest)

-- right after the load of the room s, with the sizes r, on the lent bytes b: no steps, nothing shown, each object at its own place, and the room
-- painted afresh with nothing shown
pub record LoadHolds (s : List ℕ) (r : bytes.Room) (b : Lent) : Type 0 where
  pub history : history_in (decoded s r) (after_load s b) ≡ []
  pub scene : scene_in (decoded s r) (after_load s b) ≡ bare (decoded s r)
  pub surfaces : surfaces_in (after_load s b) ≡ painted (decoded s r) [] (surfaces_in b)

-- the call c, made after that load and the calls cs
pub record CallHolds (s : List ℕ) (r : bytes.Room) (b : Lent) (cs : List Call) (c : Call) : Type 0 where
  -- accepted, or refused with its number, exactly as the step list says
  pub number : number_of s (bytes_after s b cs) c ≡ list_answer (decoded s r) (step_list (decoded s r) cs) c
  -- the history is the step list; shown list and positions are those that its steps give
  pub history : history_in (decoded s r) (bytes_after s b (c ∷ cs)) ≡ step_list (decoded s r) (c ∷ cs)
  pub scene : scene_in (decoded s r) (bytes_after s b (c ∷ cs)) ≡ scene_by (decoded s r) (step_list (decoded s r) (c ∷ cs))
  -- pixels and masks are the room painted afresh with them
  pub surfaces : surfaces_in (bytes_after s b (c ∷ cs))
      ≡ painted (decoded s r) (scene_by (decoded s r) (step_list (decoded s r) (c ∷ cs))).shown (surfaces_in b)
  -- a refused call leaves every byte
  pub refusing : (number_of s (bytes_after s b cs) c ≡ 0 → ⊥) → bytes_after s b (c ∷ cs) ≡ bytes_after s b cs
  -- an accepted take-back restores what stood just before the newest accepted step not yet taken back
  pub restoring : c ≡ TakeBack → number_of s (bytes_after s b cs) c ≡ 0 → Restored (decoded s r) (bytes_after s b (c ∷ cs)) (bytes_before s b cs)

-- for every room s and lent bytes b: kg_load is accepted exactly where the test gives the room's sizes r
pub record Demand3 : Type 0 where
  -- as the load has just left them
  pub load : (s : List ℕ) (b : Lent) (r : bytes.Room) → test_of s b ≡ Ok r → LoadHolds s r b
  -- after any list of calls, refused ones included, and any next call
  pub call : (s : List ℕ) (b : Lent) (r : bytes.Room) → test_of s b ≡ Ok r → (cs : List Call) (c : Call) → CallHolds s r b cs c
