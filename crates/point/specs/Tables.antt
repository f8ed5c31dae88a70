-- The hit test by the code's tables of boxes (crate image, specs/Rows.antt), states (crate climb, specs/Tables.antt) and last places (crate
-- replay, specs/Places.antt).
-- For the proofs: no public promise rests on what this page says.
use Rattle.std.specs.Prelude.{ℕ, ◌-◌, Bool, ◌&&◌, List, [], eqb, get_or}
use Rattle.replay.specs.declared.Size.{Size}
use Rattle.replay.specs.Places.{scene_in}
use Rattle.climb.specs.Climb.{is_open}
use Rattle.climb.specs.Tables.{boxes_of, state_in}
use Rattle.point.specs.Point.{holds}

-- the hit test, as the tables tell it
abbrev pub holds_in : (boxes places : List ℕ) → Size → (x y o : ℕ) → Bool
holds_in boxes places size x y o = holds (boxes_of boxes size.count) (scene_in places []) x y o

unfoldable pub hit_in : (boxes states places : List ℕ) → Size → List ℕ → (x y o : ℕ) → Bool
hit_in boxes states places size flags x y o =
    holds_in boxes places size x y o && eqb (get_or flags (o - 1) 0) 0 && is_open (boxes_of boxes size.count) (state_in states) size.count o
