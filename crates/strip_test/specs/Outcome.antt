-- What a decode comes to without its colours: no refusal depends on a colour or a step. The test of a strip is this.
-- For the proofs: no public promise rests on what this page says.
use Rattle.std.specs.Prelude.{ℕ, zero, suc, ◌+◌, ◌-◌, ◌≤◌, ◌<◌, ◌≡◌, Bool, List, Result, Ok, Err}
use Rattle.bits.specs.Bits.{rest, Held}
use Rattle.strip.specs.declared.State.{State}
use Rattle.strip.specs.Picture.{Picture, refusal, picture}
use Rattle.strip.specs.Strip.{refuse, go, move_of}

-- the next k pixels, in a strip that they fill; `left` more of a colour are pending, and l are the bits left
unfoldable pub outcome : Bool → (w k left : ℕ) → List Bool → Result (Unit {0}) ℕ
outcome second w zero left l = Ok tt
outcome second w (suc k) left l =
    elim (move_of second w k left 0 0 l) [ refuse n ↦ Err n | go left' c' s' l' ↦ outcome second w k left' l' ]

-- the test of a strip: whether it has a picture, or the number of its refusal
abbrev pub test_of : Picture → Result (Unit {0}) ℕ
test_of (refusal n) = Err n
test_of (picture clear px) = Ok tt

-- ---- from one place to another

-- going on from the place st to the place `to`, the outcome is the same
pub record Skipped (second : Bool) (w : ℕ) (s : List ℕ) (st to : State) : Type 0 where
  pub on : (k : ℕ) → outcome second w (to.i - st.i + k) 0 (rest s st.cur) ≡ outcome second w k 0 (rest s to.cur)

-- the answer to a turn of the test
abbrev pub Tested : Bool → (w total : ℕ) → List ℕ → State → Result State ℕ → Type 0
Tested second w total s st (Ok to) =
    (st.i < to.i) × (to.i ≤ total) × Held s to.cur
    × (outcome second w (total - st.i) 0 (rest s st.cur) ≡ outcome second w (total - to.i) 0 (rest s to.cur))
Tested second w total s st (Err n) = outcome second w (total - st.i) 0 (rest s st.cur) ≡ Err n
