-- A place in the decode of a strip, what comes from it on, and what stepping from place to place comes to. A step may take many
-- operations at once: that what it gives is the decode's is said here, once for both methods.
-- For the proofs: no public promise rests on what this page says.
use Rattle.std.specs.Prelude.{◌≡◌, ℕ, ◌+◌, ◌-◌, ◌/◌, ◌<◌, ◌≤◌, Bool, false, cond, ◌&&◌, List, replicate, ◌==◌, Result, Ok, Err}
use Rattle.bits.specs.declared.Cursor.{Cursor}
use Rattle.bits.specs.Bits.{Pull, short, got, pull, rest, Held}
use Rattle.bits.specs.Reader.{One}
use Rattle.strip.specs.declared.State.{State}
use Rattle.strip.specs.Strip.{refuse, go, op_of, Strip, refused, prepend, decode}

-- ---- the bits ahead of a place

-- how many bits the operation takes that starts with a 1 bit and isn't a run; `more` says that its second bit is 1 too
abbrev pub op_length : Bool → (w : ℕ) → Bool → ℕ
op_length second w more = cond more (cond second 5 3) (2 + w)

-- of the first two bits, as a number, whether the second is 1
abbrev pub second_bit : ℕ → Bool
second_bit v = v / 2 == 1

-- all bits of the operation that starts at c are held, if it isn't a run
pub record Whole (second : Bool) (w : ℕ) (c : Cursor) : Type 0 where
  pub two : 2 ≤ c.bits
  pub all : (s : List ℕ) (v : ℕ) (l : List Bool) → pull 2 (rest s c) ≡ got v l → op_length second w (second_bit v) ≤ c.bits

-- a run of the second method: `11` and d = 4, which from bit 0 up is 19
abbrev pub is_run : Pull → Bool
is_run short = false
is_run (got v l) = v == 19

abbrev pub run_ahead : Bool → List Bool → Bool
run_ahead second l = second && is_run (pull 5 l)

-- ---- from one place to another, over the body s, in a strip of `total` pixels

-- what comes from the place st on
abbrev pub ahead : Bool → (w total : ℕ) → List ℕ → State → Strip
ahead second w total s st = decode second w (total - st.i) 0 st.colour st.step (rest s st.cur)

-- from st on come pixels of the colour of `to` up to the place `to`, and then what comes from there on
abbrev pub Gives : Bool → (w total : ℕ) → List ℕ → (st to : State) → Type 0
Gives second w total s st to = ahead second w total s st ≡ prepend (replicate (to.i - st.i) to.colour) (ahead second w total s to)

-- the answer to one step
abbrev pub Stepped : Bool → (w total : ℕ) → List ℕ → State → Result State ℕ → Type 0
Stepped second w total s st (Ok to) = (st.i < to.i) × (to.i ≤ total) × Held s to.cur × Gives second w total s st to
Stepped second w total s st (Err n) = ahead second w total s st ≡ refused n

-- the operation at st gives one pixel and leads to `to`
abbrev pub LeadsTo : Bool → (w : ℕ) → List ℕ → (st to : State) → Type 0
LeadsTo second w s st to = op_of second w st.colour st.step (rest s st.cur) ≡ go 0 to.colour to.step (rest s to.cur)

-- the operation at st, where it starts with a 1 bit and isn't a run: it takes at most ten bits
pub record Leads (second : Bool) (w : ℕ) (st to : State) : Type 0 where
  pub on : to.i ≡ st.i + 1
  pub few : st.cur.bits ≤ to.cur.bits + 10
  pub fewer : to.cur.bits ≤ st.cur.bits
  pub held : (s : List ℕ) → Held s st.cur → Held s to.cur
  pub leads : (s : List ℕ) → One (rest s st.cur) → run_ahead second (rest s st.cur) ≡ false → LeadsTo second w s st to

-- the operation at c is cut
abbrev pub Cut : Bool → (w : ℕ) → List ℕ → Cursor → Type 0
Cut second w s c = (colour step : ℕ) → op_of second w colour step (rest s c) ≡ refuse 7

-- the place after k keeps, where the bits go on at `next`
abbrev pub kept_by : ℕ → Cursor → State → State
kept_by k next st = record { i = st.i + k; colour = st.colour; step = st.step; cur = next }

-- so many bits are held and so many pixels are left, and no run stands ahead
pub record Fits (second : Bool) (total bits pixels : ℕ) (st : State) : Type 0 where
  pub none : (s : List ℕ) → run_ahead second (rest s st.cur) ≡ false
  pub enough : bits ≤ st.cur.bits
  pub room : st.i + pixels ≤ total
