-- A draw, a hide or a take-back on a room's bytes, a session's bytes and lent surfaces (document 01, "Sessions"): what crate scene's
-- `called` gives at the room that the bytes decode to. The room's own refusals, 1 to 8 with 4, go first.
use Rattle.std.specs.Prelude.{ℕ, cond, List, eqb, Result, Ok, Err}
use Rattle.room.specs.declared.Room.{Room}
use Rattle.scene.specs.Painting as scene
use Rattle.scene.specs.declared.Call.{Call}
use Rattle.scene.specs.Session.{State, Outcome, called}
use Rattle.stored.specs.Bytes.{session_of, put_call}
use Rattle.layers.specs.Decoded.{decoded}

-- the session that the bytes hold, and the surfaces lent with it
abbrev pub state_of : scene.Room → (session pixels masks : List ℕ) → State
state_of room session pixels masks =
    record { session = session_of room session; surfaces = record { pixels = pixels; masks = masks } }

-- what a call comes to on a room that passes
abbrev pub outcome : List ℕ → Room → (session pixels masks : List ℕ) → Call → Outcome
outcome s r session pixels masks c = called (decoded s r) (state_of (decoded s r) session pixels masks) c

-- the session's bytes after it: an accepted call stores its step, or takes the newest one out, and stores the list that it leaves
abbrev pub kept : List ℕ → Call → Outcome → List ℕ
kept session c o = cond (eqb o.number 0) (put_call session c o.after.session.shown) session

-- the number and the lent bytes, by the room's test
abbrev pub call_number : List ℕ → (session pixels masks : List ℕ) → Call → Result Room ℕ → ℕ
call_number s session pixels masks c (Ok r) = (outcome s r session pixels masks c).number
call_number s session pixels masks c (Err n) = n

abbrev pub call_session : List ℕ → (session pixels masks : List ℕ) → Call → Result Room ℕ → List ℕ
call_session s session pixels masks c (Ok r) = kept session c (outcome s r session pixels masks c)
call_session s session pixels masks c (Err n) = session

abbrev pub call_pixels : List ℕ → (session pixels masks : List ℕ) → Call → Result Room ℕ → List ℕ
call_pixels s session pixels masks c (Ok r) = (outcome s r session pixels masks c).after.surfaces.pixels
call_pixels s session pixels masks c (Err n) = pixels

abbrev pub call_masks : List ℕ → (session pixels masks : List ℕ) → Call → Result Room ℕ → List ℕ
call_masks s session pixels masks c (Ok r) = (outcome s r session pixels masks c).after.surfaces.masks
call_masks s session pixels masks c (Err n) = masks
