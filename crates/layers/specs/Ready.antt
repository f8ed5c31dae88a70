-- What holds when strips are rebuilt: the room passes its test, the table of its objects is filled, and each entry of the shown list
-- could be drawn (document 01, "Sessions": none of its refusals 11, 12, 2 and 5 to 8 is given).
-- For the proofs: no public promise rests on what this page says.
use Rattle.std.specs.Prelude.{ℕ, ◌*◌, ◌≤◌, ◌<◌, ◌≡◌, true, List, length, Ok}
use Rattle.room.specs.Head.{Sound}
use Rattle.room.specs.Test.{pictures_test}
use Rattle.room.specs.declared.Room.{Room}
use Rattle.image.specs.Image.{drawable}
use Rattle.image.specs.Fault.{image_fault}
use Rattle.image.specs.Gathered.{Gathered}
use Rattle.scene.specs.Steps.{allowed}
use Rattle.scene.specs.declared.Entry.{Entry}
use Rattle.layers.specs.Decoded.{decoded, entry_at}

pub record Ready (s : List ℕ) (r : Room) (table : List ℕ) : Type 0 where
  pub sound : Sound s r
  pub passed : pictures_test s r ≡ Ok tt
  pub gathered : Gathered s table

pub record Paintable (s : List ℕ) (r : Room) (e : Entry) : Type 0 where
  pub can_draw : drawable s e.object e.state ≡ true
  pub in_room : allowed (decoded s r) e ≡ true
  pub no-fault : image_fault r.planes s e.object e.state ≡ Ok tt

-- the first n entries
pub record Listed (s : List ℕ) (r : Room) (shown : List ℕ) (n : ℕ) : Type 0 where
  pub long : 4 * n ≤ length shown
  pub each : (i : ℕ) → i < n → Paintable s r (entry_at shown i)
