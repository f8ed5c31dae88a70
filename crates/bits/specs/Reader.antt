-- What a cursor's methods come to, said over the bits of the body (change request 2): a reader starts before a byte, fetches bytes and
-- hands bits out, in any order.
use Rattle.std.specs.Prelude.{◌≡◌, Bool, true, List, [], ◌∷◌, ◌++◌, ℕ, ◌+◌, ◌-◌, ◌*◌, ◌≤◌, length, drop}
use Rattle.bits.specs.declared.Cursor.{Cursor}
use Rattle.bits.specs.Bits.{low_bits, bits_of, got, pull, rest, Held}

-- c stands before the byte `from`: nothing is fetched
pub record Starts (from : ℕ) (c : Cursor) : Type 0 where
  pub place : c.at ≡ from
  pub none : c.bits ≡ 0
  pub all : (s : List ℕ) → rest s c ≡ bits_of (drop from s)
  pub held : (s : List ℕ) → from ≤ length s → Held s c

-- d is c with more bytes of the body s fetched, each once: eight bits more held for each byte passed, and the same bits not handed out
pub record Fetches (s : List ℕ) (c d : Cursor) : Type 0 where
  pub on : c.at ≤ d.at
  pub eight : d.bits ≡ c.bits + 8 * (d.at - c.at)
  pub same : rest s d ≡ rest s c
  pub held : Held s d

-- c hands out n bits, the number v, and d comes behind them: the n-bit number at the head of what isn't handed out. No byte is fetched
pub record Hands (n v : ℕ) (c d : Cursor) : Type 0 where
  pub fewer : d.bits + n ≡ c.bits
  pub still : d.at ≡ c.at
  pub front : (s : List ℕ) → pull n (rest s c) ≡ got v (rest s d)
  pub held : (s : List ℕ) → Held s c → Held s d

-- a reader of the body s that started before the byte `from`, through any order of fetches and hand-outs: it has handed out the bits l and
-- stands at c
pub data Reads (s : List ℕ) (from : ℕ) : List Bool → Cursor → Type 0 where
  starts : {c : Cursor} → Starts from c → Reads s from [] c
  fetches : {l : List Bool} {c d : Cursor} → Reads s from l c → Fetches s c d → Reads s from l d
  hands : {l : List Bool} {c d : Cursor} {n v : ℕ} → Reads s from l c → Hands n v c d → Reads s from (l ++ low_bits n v) d

-- ---- for the proofs: no public promise rests on what follows

-- v is the n-bit number at the head of what c has not handed out
abbrev pub Shows : (n v : ℕ) → Cursor → Type 0
Shows n v c = (s : List ℕ) → (l : List Bool) × (pull n (rest s c) ≡ got v l)

-- a 1 bit comes first
abbrev pub One : List Bool → Type 0
One l = (t : List Bool) × (l ≡ true ∷ t)
