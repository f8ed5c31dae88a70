-- The objects of a room's bytes, as the point question asks for them (document 01, "Actors, points, limbs"; CDHD as in source 003). o is an
-- object's number from 1.
use Rattle.std.specs.Prelude.{ℕ, ◌*◌, List}
use Rattle.objects.specs.Object.{object_block}
use Rattle.image.specs.Image.{object_count, cdhd_of}
use Rattle.image.specs.Rows.{byte_of}
use Rattle.climb.specs.Objects.{Objects}

-- byte n of the object's CDHD
unfoldable pub cdhd_byte : List ℕ → (n o : ℕ) → ℕ
cdhd_byte s n o = byte_of s n (cdhd_of s (object_block s o))

-- the objects of a room's bytes: CDHD counts place and size in strips of 8 pixels
unfoldable pub objects_of : List ℕ → Objects
objects_of s =
    record {
      count = object_count s;
      x = λ o. 8 * cdhd_byte s 2 o;
      y = λ o. 8 * cdhd_byte s 3 o;
      width = λ o. 8 * cdhd_byte s 4 o;
      height = λ o. 8 * cdhd_byte s 5 o;
      flags = cdhd_byte s 6;
      parent = cdhd_byte s 7;
    }
