-- The container chain of an object (document 01, "Actors, points, limbs"): the state of each object, and whether the chain is open.
use Rattle.std.specs.Prelude.{ℕ, zero, suc, ◌/◌, ◌%◌, Bool, true, false, cond, not, ◌&&◌, List, [], ◌∷◌, eqb, leb}
use Rattle.scene.specs.declared.Entry.{Entry}
use Rattle.climb.specs.Objects.{Objects}

-- state is the shown state, else 0
unfoldable pub state_of : List Entry → ℕ → ℕ
state_of [] o = 0
state_of (e ∷ es) o = cond (eqb e.object o) e.state (state_of es o)

-- a parent must have state not 0 if its child's flags have bit 80, else 0
unfoldable pub lets : (flags state : ℕ) → Bool
lets flags state = cond (eqb (flags / 0x80 % 2) 1) (not (eqb state 0)) (eqb state 0)

-- The container chain of an object is open, climbed with so many links left: it reaches 0, and each parent on the way is there and has
-- the state that its child asks for. A chain that never reaches 0 runs out of links, which closes it.
unfoldable pub is_open : Objects → (ℕ → ℕ) → (links o : ℕ) → Bool
is_open obs state zero o = false
is_open obs state (suc links) o =
    cond (eqb (obs.parent o) 0) true
    (leb (obs.parent o) obs.count && lets (obs.flags o) (state (obs.parent o)) && is_open obs state links (obs.parent o))
