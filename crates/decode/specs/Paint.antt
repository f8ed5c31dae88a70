-- What painting from place to place of a strip comes to. A painting may take many operations at once: that what it paints is the decode's
-- is said here, once for both methods.
-- For the proofs: no public promise rests on what this page says.
use Rattle.std.specs.Prelude.{ℕ, ◌+◌, ◌≤◌, ◌<◌, ◌≡◌, Bool, List, take, Result, Ok, Err}
use Rattle.bits.specs.Bits.{Held}
use Rattle.strip.specs.declared.State.{State}
use Rattle.strip.specs.Strip.{Strip, refused, values, prepend}
use Rattle.strip.specs.Place.{ahead}

-- x is the pixels painted up to the place st, and then what comes from there on
abbrev pub Painted : Bool → (w total : ℕ) → List ℕ → Strip → (out : List ℕ) → State → Type 0
Painted second w total s x out st = x ≡ prepend (take st.i out) (ahead second w total s st)

-- painting on from st to `to`, which makes out' of out
pub record Paints (second : Bool) (w total : ℕ) (s : List ℕ) (st : State) (out : List ℕ) (to : State) (out' : List ℕ) : Type 0 where
  pub on : (x : Strip) → Painted second w total s x out st → Painted second w total s x out' to

-- painting at most n pixels from st to `to`
pub record Advances (second : Bool) (w n : ℕ) (st : State) (out : List ℕ) (to : State) (out' : List ℕ) : Type 0 where
  pub forward : st.i ≤ to.i
  pub few : to.i ≤ st.i + n
  pub held : (s : List ℕ) → Held s st.cur → Held s to.cur
  pub paints : (s : List ℕ) (total : ℕ) → st.i + n ≤ total → Paints second w total s st out to out'

-- the answer to a turn of the painting
abbrev pub Turned : Bool → (w total : ℕ) → List ℕ → State → (out out' : List ℕ) → Result State ℕ → Type 0
Turned second w total s st out out' (Ok to) = (st.i < to.i) × (to.i ≤ total) × Held s to.cur × Paints second w total s st out to out'
Turned second w total s st out out' (Err n) = ahead second w total s st ≡ refused n

-- the answer r to a decode x of n pixels into a buffer, which is e after
abbrev pub Decoded : ℕ → Strip → List ℕ → Result (Unit {0}) ℕ → Type 0
Decoded n x e (Ok tt) = x ≡ values (take n e)
Decoded n x e (Err r) = x ≡ refused r
