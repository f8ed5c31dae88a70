-- A list of calls in bytes, 20 for each call: five little-endian numbers of 32 bits, which are the kind (0 hide, 1 draw at the last place,
-- 2 draw at a strip position, any other take back), the object, the state, a and b. Assumes nothing.
use Rattle.std.specs.Prelude.{ℕ, zero, suc, ◌+◌, ◌*◌, ◌/◌, min, List, [], ◌∷◌, length}
use Rattle.number.specs.Number.{le32}
use Rattle.scene.specs.declared.Call.{Call}
use Rattle.scene.specs.declared.Call.TheVariants.{Make, TakeBack}
use Rattle.scene.specs.declared.Place.TheVariants.{Last, Strip}
use Rattle.scene.specs.declared.Step.TheVariants.{Draw, Hide}

abbrev pub call_of : (kind object state a b : ℕ) → Call
call_of zero o s a b = Make (Hide o)
call_of (suc zero) o s a b = Make (Draw o s Last)
call_of (suc (suc zero)) o s a b = Make (Draw o s (Strip a b))
call_of (suc (suc (suc k))) o s a b = TakeBack

-- the call in the 20 bytes from `at` on, its kind given, and with the kind that stands there
abbrev pub call_with : List ℕ → (at kind : ℕ) → Call
call_with l at kind = call_of kind (le32 l (at + 4)) (le32 l (at + 8)) (le32 l (at + 12)) (le32 l (at + 16))

abbrev pub call_from : List ℕ → (at : ℕ) → Call
call_from l at = call_with l at (le32 l at)

-- call i, counted from 0
abbrev pub call_at : List ℕ → (i : ℕ) → Call
call_at l i = call_from l (20 * i)

-- the first n calls, the newest first, as crate play takes them
unfoldable pub calls_of : List ℕ → (n : ℕ) → List Call
calls_of l zero = []
calls_of l (suc n) = call_at l n ∷ calls_of l n

-- how many calls are played: the whole records, and no more than there are bytes for numbers
abbrev pub call_count : (calls numbers : List ℕ) → ℕ
call_count calls numbers = min (length calls / 20) (length numbers)
