-- Demand 3 of a run (document 01, "Sessions", demand 3): crate demands' records of the load and of each call that is played, with the numbers and
-- the bytes that the run leaves. Assumes nothing.
use Rattle.std.specs.Prelude.{ℕ, ◌<◌, ◌≡◌, List, get_or}
use Rattle.room.specs.declared.Room.{Room}
use Rattle.play.specs.Bytes.{Lent, number_of, bytes_after}
use Rattle.demands.specs.Demand3.{LoadHolds, CallHolds}
use Rattle.call_list.specs.Coded.{call_at, calls_of}

-- s, r: the room's bytes and sizes; b: the lent bytes before; l: the calls' bytes, of which n calls are played; out: the numbers, and after: the lent
-- bytes, afterwards
pub record RunHolds (s : List ℕ) (r : Room) (b : Lent) (l : List ℕ) (n : ℕ) (out : List ℕ) (after : Lent) : Type 0 where
  -- demand 3 holds of the load, and of each call, made after the calls before it
  pub load : LoadHolds s r b
  pub call : (i : ℕ) → i < n → CallHolds s r b (calls_of l i) (call_at l i)
  -- the numbers are those of the calls, and the bytes those after the last one
  pub number : (i : ℕ) → i < n → get_or out i 0 ≡ number_of s (bytes_after s b (calls_of l i)) (call_at l i)
  pub left : after ≡ bytes_after s b (calls_of l n)
