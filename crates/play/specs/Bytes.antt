-- A list of calls on lent bytes, from any that hold a session and from a load on (demand 3). Lists of calls stand newest first.
use Rattle.std.specs.Prelude.{ℕ, List, Result}
use Rattle.room.specs.declared.Room.{Room}
use Rattle.room.specs.Test.{surfaces_test}
use Rattle.load.specs.Load.{load_test, session_after, pixels_after, masks_after}
use Rattle.scene.specs.declared.Call.{Call}
use Rattle.scene.specs.Calls.{after_all}
use Rattle.stored.specs.Layout.{session_size}
use Rattle.play.specs.Calls.{call_number, call_session, call_pixels, call_masks}

-- the lent bytes: a session, pixels and masks
pub record Lent : Type 0 where
  pub session : List ℕ
  pub pixels : List ℕ
  pub masks : List ℕ

abbrev pub lent : (session pixels masks : List ℕ) → Lent
lent session pixels masks = record { session = session; pixels = pixels; masks = masks }

-- the room's test with them, as the load makes it, and as a draw, a hide or a take-back does
abbrev pub test_of : List ℕ → Lent → Result Room ℕ
test_of s b = load_test s b.session b.pixels b.masks

abbrev pub call_test : List ℕ → Lent → Result Room ℕ
call_test s b = surfaces_test session_size s b.session b.pixels b.masks

-- what a load leaves
abbrev pub after_load : List ℕ → Lent → Lent
after_load s b =
    record {
      session = session_after (test_of s b) b.session;
      pixels = pixels_after s (test_of s b) b.pixels;
      masks = masks_after s (test_of s b) b.masks;
    }

-- a call's number and what it leaves: by the room's test, and of any bytes
abbrev pub number_by : List ℕ → Lent → Call → Result Room ℕ → ℕ
number_by s b c t = call_number s b.session b.pixels b.masks c t

abbrev pub after_by : List ℕ → Lent → Call → Result Room ℕ → Lent
after_by s b c t =
    record {
      session = call_session s b.session b.pixels b.masks c t;
      pixels = call_pixels s b.session b.pixels b.masks c t;
      masks = call_masks s b.session b.pixels b.masks c t;
    }

abbrev pub number_of : List ℕ → Lent → Call → ℕ
number_of s b c = number_by s b c (call_test s b)

abbrev pub after_call : List ℕ → Lent → Call → Lent
after_call s b c = after_by s b c (call_test s b)

-- the bytes after a list of calls, from bytes that hold a session: each call gets what the last one left
unfoldable pub played : List ℕ → Lent → List Call → Lent
played s x cs = after_all (after_call s) x cs

-- from a load on
abbrev pub bytes_after : List ℕ → Lent → List Call → Lent
bytes_after s b cs = played s (after_load s b) cs
