-- The object under a point (document 01, "Actors, points, limbs"): the lowest-numbered whose box holds it, whose lent flag byte is 0, and
-- whose container chain is open.
use Rattle.std.specs.Prelude.{ℕ, zero, suc, ◌+◌, ◌-◌, Bool, cond, ◌&&◌, List, eqb, leb, ltb, get_or}
use Rattle.scene.specs.Steps.{Scene}
use Rattle.climb.specs.Objects.{Objects}
use Rattle.climb.specs.Climb.{state_of, is_open}

-- a box stands at its object's newest strip position in the history, else at CDHD's place × 8
unfoldable pub left : Objects → Scene → ℕ → ℕ
left obs sc o = cond (sc.last o).set (sc.last o).x (obs.x o)

unfoldable pub top : Objects → Scene → ℕ → ℕ
top obs sc o = cond (sc.last o).set (sc.last o).y (obs.y o)

-- a span of n pixels from `from` on holds the pixel p
unfoldable pub spans : (from n p : ℕ) → Bool
spans from n p = leb from p && ltb p (from + n)

-- the box, CDHD sizes × 8, holds the point
unfoldable pub holds : Objects → Scene → (x y o : ℕ) → Bool
holds obs sc x y o = spans (left obs sc o) (obs.width o) x && spans (top obs sc o) (obs.height o) y

-- the object is the one that a point means, but for lower-numbered ones
unfoldable pub hit : Objects → Scene → List ℕ → (x y o : ℕ) → Bool
hit obs sc flags x y o =
    holds obs sc x y o && eqb (get_or flags (o - 1) 0) 0 && is_open obs (state_of sc.shown) obs.count o

-- the lowest of n numbers from `from` on that passes the test; 0 where none does
unfoldable pub lowest : (ℕ → Bool) → (from n : ℕ) → ℕ
lowest f from zero = 0
lowest f from (suc n) = cond (f from) from (lowest f (suc from) n)

-- the object under the point (x, y); 0 is "no object"
unfoldable pub object_at : Objects → Scene → List ℕ → (x y : ℕ) → ℕ
object_at obs sc flags x y = lowest (hit obs sc flags x y) 1 obs.count
