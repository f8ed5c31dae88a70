-- What the definitions of painting (crate scene) are applied to: the room that an accepted room's bytes decode to, and the shown list
-- that a list of numbers holds (document 01, "Sessions").
use Rattle.std.specs.Prelude.{ℕ, zero, suc, ◌+◌, ◌*◌, List, [], ◌∷◌, ◌++◌, get_or}
use Rattle.table.specs.Test.{number}
use Rattle.room.specs.Test.{strips}
use Rattle.room.specs.declared.Room.{Room}
use Rattle.load.specs.Load.{background, mask}
use Rattle.image.specs.Image as image
use Rattle.image.specs.Fault.{image_fault}
use Rattle.image.specs.Pixel.{image_colour, image_clear, image_bits}
use Rattle.scene.specs.Painting as scene
use Rattle.scene.specs.declared.Entry.{Entry}

-- the room's pictures and its objects' images; plane k of crate scene is plane k + 1 of document 01
unfoldable pub decoded : List ℕ → Room → scene.Room
decoded s r =
    record {
      strips = strips r;
      height = r.height;
      planes = r.planes;
      background = background s r;
      plane = λ k. mask s r (k + 1);
      home_x = image.home_x s;
      home_y = image.home_y s;
      width = image.image_width s;
      tall = image.image_height s;
      drawable = image.drawable s;
      fault = λ o st. number (image_fault r.planes s o st);
      colour = image_colour r.planes s;
      clear = image_clear r.planes r.clear s;
      bits = λ o st k. image_bits r.planes s o st (k + 1);
    }

-- a shown list in numbers, four for each entry: object, state, x, y; the oldest entry stands first
unfoldable pub entry_at : List ℕ → ℕ → Entry
entry_at shown i =
    record { object = get_or shown (4 * i) 0; state = get_or shown (4 * i + 1) 0; x = get_or shown (4 * i + 2) 0; y = get_or shown (4 * i + 3) 0 }

-- its first n entries
unfoldable pub entries_of : List ℕ → ℕ → List Entry
entries_of shown zero = []
entries_of shown (suc n) = entries_of shown n ++ (entry_at shown n ∷ [])
