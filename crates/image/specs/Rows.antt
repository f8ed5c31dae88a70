-- The rows that one walk over the objects puts: their ids, for the table of images, or their boxes, for a point (crate point). CDHD as in source
-- 003: place and size in strips of 8 pixels.
use Rattle.std.specs.Prelude.{ℕ, ◌+◌, ◌*◌, List, [], ◌∷◌, Bool, true, false, get_or, Option, Some, None}
use Rattle.image.specs.Image.{id_at, cdhd_of}
use Rattle.image.specs.Gathered.{row_with}

-- byte n of a header's payload; 0 where there is no header
abbrev pub byte_of : List ℕ → ℕ → Option (ℕ × ℕ) → ℕ
byte_of s n (Some (p, z)) = get_or s (p + n) 0
byte_of s n None = 0

-- the row of an object with this CDHD: its id and no image; or its box, flags and parent
unfoldable pub header_row : (boxes : Bool) → List ℕ → Option (ℕ × ℕ) → List ℕ
header_row false s h = row_with s (id_at s h) None
header_row true s h = 0 ∷ 8 * byte_of s 2 h ∷ 8 * byte_of s 3 h ∷ 8 * byte_of s 4 h ∷ 8 * byte_of s 5 h ∷ byte_of s 6 h ∷ byte_of s 7 h ∷ 0 ∷ []

-- the row of an object whose OBCD is the block f
abbrev pub object_row : (boxes : Bool) → List ℕ → Option (ℕ × ℕ) → List ℕ
object_row boxes s f = header_row boxes s (cdhd_of s f)
