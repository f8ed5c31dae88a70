-- The verdict of an object's image in a state, and a table of verdicts that is right for the steps judged so far (document 01, "Numbered
-- refusals": 11, and the image's own 2 and 5 to 8). s is the room's bytes, r its sizes.
-- For the proofs: no public promise rests on what this page says.
use Rattle.std.specs.Prelude.{ℕ, ◌+◌, ◌*◌, ◌≤◌, ◌≡◌, true, not, List, eqb, length, get_or}
use Rattle.table.specs.Test.{number}
use Rattle.room.specs.declared.Room.{Room}
use Rattle.image.specs.Image.{drawable}
use Rattle.image.specs.Fault.{image_fault}
use Rattle.scene.specs.declared.Step.{Step}
use Rattle.replay.specs.Tables.{names, size_allowed, verdicts_length}
use Rattle.layers.specs.Decoded.{decoded}

-- v is the verdict of object o in state st: 11 where it can't be drawn, else the number of its image's fault, which is asked only of an
-- image whose size is allowed, for 12 goes first
pub record Right (s : List ℕ) (r : Room) (o st v : ℕ) : Type 0 where
  pub low : v ≤ 11
  pub can_draw : drawable s o st ≡ not (eqb v 11)
  pub own : drawable s o st ≡ true → size_allowed (decoded s r) o ≡ true → number (image_fault r.planes s o st) ≡ v

-- an object and a state that have a cell
pub record Within (r : Room) (o st : ℕ) : Type 0 where
  pub first : 1 ≤ o
  pub last : o ≤ r.objects
  pub lowest : 1 ≤ st
  pub highest : st ≤ 9

-- where the verdict of object o in state st is kept
abbrev pub cell_at : List ℕ → (o st : ℕ) → ℕ
cell_at verdicts o st = get_or verdicts (10 * o + st) 0

-- every cell is 255, not judged yet, or right; and those of the images that the steps draw are judged
pub record Judged (s : List ℕ) (r : Room) (verdicts : List ℕ) (steps : List Step) : Type 0 where
  pub long : verdicts_length ≤ length verdicts
  pub right : (o st : ℕ) → Within r o st → (cell_at verdicts o st ≡ 255 → ⊥) → Right s r o st (cell_at verdicts o st)
  pub done : (o st : ℕ) → Within r o st → names steps o st ≡ true → cell_at verdicts o st ≡ 255 → ⊥
