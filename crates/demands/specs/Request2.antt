-- Change request 2, in the customer's words: "When it runs short it should fetch bytes until it holds at least 25 bits or the body ends, each byte
-- once, and hand out up to 8 bits without a loop over them. Show that the bits held and then the bytes not fetched are always the body's bits
-- not yet handed out."
--
-- What a start, a fetch and a hand-out are is said by `Starts`, `Fetches` and `Hands` (crate bits), which its cursor promises (`new`, `refill`,
-- `take`, `zeros`). c is a cursor over a body that started before the byte `from` and, through any order of fetches and hand-outs, has handed
-- out the bits l.
use Rattle.std.specs.Prelude.{ℕ, ◌+◌, ◌-◌, ◌*◌, ◌≤◌, ◌≡◌, Bool, List, ◌++◌, ◌⊎◌, length, drop}
use Rattle.bits.specs.declared.Cursor.{Cursor}
use Rattle.bits.specs.Bits.{low_bits, bits_of, rest, Full}
use Rattle.bits.specs.Reader.{Fetches, Reads}

pub record Request2 : Type 0 where
  -- "the bits held and then the bytes not fetched are always the body's bits not yet handed out"
  pub bits-in_order : (body : List ℕ) (from : ℕ) (l : List Bool) (c : Cursor) → Reads body from l c
      → bits_of (drop from body) ≡ l ++ (low_bits c.bits c.hold ++ bits_of (drop c.at body))
  -- "each byte once": eight bits came in for each byte passed, and they are handed out or held
  pub each_byte_once : (body : List ℕ) (from : ℕ) (l : List Bool) (c : Cursor) → Reads body from l c
      → (from ≤ c.at) × (8 * (c.at - from) ≡ length l + c.bits)
  -- "it should fetch bytes until it holds at least 25 bits or the body ends": c becomes d by what `refill` promises
  pub holds-25 : (body : List ℕ) (c d : Cursor) → Fetches body c d → Full body d → (25 ≤ d.bits) ⊎ (d.at ≡ length body)
  -- "and hand out up to 8 bits": after that, n bits are held unless fewer than n are left at all
  pub eight-held : (body : List ℕ) (c d : Cursor) → Fetches body c d → Full body d → (n : ℕ) → n ≤ 8 → n ≤ length (rest body d) → n ≤ d.bits
