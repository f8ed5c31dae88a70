-- The code's own values: the boxes of a room's objects as a table of 8 numbers each, those of object o from 8 * o on (0, x, y, width,
-- height, flags, parent, 0), and a number for each object's state.
-- For the proofs: no public promise rests on what this page says.
use Rattle.std.specs.Prelude.{ℕ, ◌+◌, ◌*◌, ◌≤◌, ◌≡◌, List, get_or}
use Rattle.scene.specs.declared.Entry.{Entry}
use Rattle.climb.specs.Objects.{Objects}
use Rattle.climb.specs.Climb.{state_of}

-- the objects that a table tells
abbrev pub boxes_of : List ℕ → ℕ → Objects
boxes_of t count =
    record {
      count = count;
      x = λ o. get_or t (8 * o + 1) 0;
      y = λ o. get_or t (8 * o + 2) 0;
      width = λ o. get_or t (8 * o + 3) 0;
      height = λ o. get_or t (8 * o + 4) 0;
      flags = λ o. get_or t (8 * o + 5) 0;
      parent = λ o. get_or t (8 * o + 6) 0;
    }

-- the state of each object that can be one
abbrev pub States : List Entry → List ℕ → Type 0
States es states = (o : ℕ) → o ≤ 128 → get_or states o 0 ≡ state_of es o

abbrev pub state_in : List ℕ → ℕ → ℕ
state_in states o = get_or states o 0
