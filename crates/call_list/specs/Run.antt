-- What a run leaves: the bytes and the numbers after a load and the first n calls of a list. Assumes nothing.
use Rattle.std.specs.Prelude.{ℕ, zero, suc, List, set, Result, Ok, Err}
use Rattle.room.specs.declared.Room.{Room}
use Rattle.play.specs.Bytes.{Lent, test_of, number_of, played, bytes_after}
use Rattle.call_list.specs.Coded.{call_at, calls_of}

-- the number of call i, from bytes that hold a session
abbrev pub played_number : List ℕ → Lent → (calls : List ℕ) → (i : ℕ) → ℕ
played_number s x l i = number_of s (played s x (calls_of l i)) (call_at l i)

-- f 0 to f (n - 1) put at 0 to n - 1; other bytes stay
unfoldable pub put_first : (ℕ → ℕ) → (n : ℕ) → List ℕ → List ℕ
put_first f zero old = old
put_first f (suc n) old = set (put_first f n old) n (f n)

-- the number of call i of a run
abbrev pub number_at : List ℕ → Lent → (calls : List ℕ) → (i : ℕ) → ℕ
number_at s b l i = number_of s (bytes_after s b (calls_of l i)) (call_at l i)

-- the first where the room passes, else the second
abbrev pub if_passed : {A : Type 0} → Result Room ℕ → A → A → A
if_passed (Ok r) x y = x
if_passed (Err n) x y = y

-- the lent bytes after a run of n calls: where the load is refused, as they were
abbrev pub bytes_run : List ℕ → Lent → (calls : List ℕ) → (n : ℕ) → Lent
bytes_run s b l n = if_passed (test_of s b) (bytes_after s b (calls_of l n)) b

-- the bytes for the numbers after it
abbrev pub numbers_run : List ℕ → Lent → (calls : List ℕ) → (n : ℕ) → List ℕ → List ℕ
numbers_run s b l n old = if_passed (test_of s b) (put_first (number_at s b l) n old) old
