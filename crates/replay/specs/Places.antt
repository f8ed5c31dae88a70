-- The table of last places that a replay carries (document 01, "Sessions"): for each object from 0 to 128, as numbers, x, y, and 1 where a
-- strip position set the place. Assumes nothing.
-- For the proofs: no public promise rests on what this page says.
use Rattle.std.specs.Prelude.{ℕ, ◌+◌, ◌*◌, ◌≤◌, ◌<◌, ◌≡◌, false, cond, List, eqb, leb, get_or}
use Rattle.scene.specs.declared.Entry.{Entry}
use Rattle.scene.specs.declared.Place.{Place}
use Rattle.scene.specs.declared.Place.TheVariants.{Last, Strip}
use Rattle.scene.specs.declared.Step.{Step}
use Rattle.scene.specs.declared.Step.TheVariants.{Draw, Hide}
use Rattle.scene.specs.Steps.{Scene}
use Rattle.scene.specs.Steps as steps
use Rattle.replay.specs.declared.Spot.{Spot}

-- each object's place; one past the table is at 0, 0, as an object that is not there
unfoldable pub places_in : List ℕ → ℕ → steps.Spot
places_in places o =
    cond (leb o 128) (record { x = get_or places (3 * o) 0; y = get_or places (3 * o + 1) 0; set = eqb (get_or places (3 * o + 2) 0) 1 })
    (record { x = 0; y = 0; set = false })

-- a shown list with the table's places
abbrev pub scene_in : List ℕ → List Entry → Scene
scene_in places es = record { shown = es; last = places_in places }

-- ---- the code's own values

-- a place in pixels, with room for sums
pub record IsAt (at : Spot) (p : steps.Spot) : Type 0 where
  pub x : at.x ≡ p.x
  pub y : at.y ≡ p.y
  pub set : at.set ≡ p.set
  pub left : at.x < 68719476736
  pub upper : at.y < 68719476736

-- what is known of the numbers of an accepted draw: its object is in the table, and so can be its place
abbrev pub NearPlace : Place → Type 0
NearPlace Last = Unit {0}
NearPlace (Strip a b) = (a ≤ 127) × (b ≤ 24)

abbrev pub Near : Step → Type 0
Near (Draw o s p) = (o ≤ 128) × NearPlace p
Near (Hide o) = Unit {0}
