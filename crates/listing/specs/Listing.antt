-- The listing of a room (document 01, "Worked rows", the whole listing of a room): a line for the room and one for each object in OBCD order,
-- or the one line of its refusal.
use Rattle.std.specs.Prelude.{ℕ, zero, suc, ◌*◌, cond, List, [], ◌∷◌, ◌++◌, ltb, ℤ, length, Option, Some, None, Result, Ok, Err}
use Rattle.number.specs.Buffer.{over}
use Rattle.room.specs.Test.{room_test, nothing}
use Rattle.room.specs.declared.Room.{Room}
use Rattle.objects.specs.Object.{cdhd_at, cdhd_in, object_block}
use Rattle.objects.specs.declared.Cdhd.{Cdhd}
use Rattle.listing.specs.Decimal.{decimal, signed}

-- a space, and the end of a line
abbrev pub space : List ℕ
space = 0x20 ∷ []

abbrev pub newline : List ℕ
newline = 0x0A ∷ []

-- `room `, ` planes `, ` objects `
abbrev pub text_room : List ℕ
text_room = 0x72 ∷ 0x6F ∷ 0x6F ∷ 0x6D ∷ 0x20 ∷ []

abbrev pub text_planes : List ℕ
text_planes = 0x20 ∷ 0x70 ∷ 0x6C ∷ 0x61 ∷ 0x6E ∷ 0x65 ∷ 0x73 ∷ 0x20 ∷ []

abbrev pub text_objects : List ℕ
text_objects = 0x20 ∷ 0x6F ∷ 0x62 ∷ 0x6A ∷ 0x65 ∷ 0x63 ∷ 0x74 ∷ 0x73 ∷ 0x20 ∷ []

-- `object `, ` id `, ` box `, ` walk `
abbrev pub text_object : List ℕ
text_object = 0x6F ∷ 0x62 ∷ 0x6A ∷ 0x65 ∷ 0x63 ∷ 0x74 ∷ 0x20 ∷ []

abbrev pub text_id : List ℕ
text_id = 0x20 ∷ 0x69 ∷ 0x64 ∷ 0x20 ∷ []

abbrev pub text_box : List ℕ
text_box = 0x20 ∷ 0x62 ∷ 0x6F ∷ 0x78 ∷ 0x20 ∷ []

abbrev pub text_walk : List ℕ
text_walk = 0x20 ∷ 0x77 ∷ 0x61 ∷ 0x6C ∷ 0x6B ∷ 0x20 ∷ []

-- `refused `
abbrev pub text_refused : List ℕ
text_refused = 0x72 ∷ 0x65 ∷ 0x66 ∷ 0x75 ∷ 0x73 ∷ 0x65 ∷ 0x64 ∷ 0x20 ∷ []

-- a number, and a signed number, behind a text
unfoldable pub field : List ℕ → ℕ → List ℕ
field text n = text ++ decimal n

unfoldable pub signed_field : List ℕ → ℤ → List ℕ
signed_field text z = text ++ signed z

-- `room W H planes N objects M`
unfoldable pub room_line : Room → List ℕ
room_line r =
    field text_room r.width ++ field space r.height ++ field text_planes r.planes ++ field text_objects r.objects ++ newline

-- ` box X Y W H`: the box is CDHD's, in pixels
unfoldable pub box_part : Cdhd → List ℕ
box_part h = field text_box (h.x * 8) ++ field space (h.y * 8) ++ field space (h.width * 8) ++ field space (h.height * 8)

-- ` walk X Y`
unfoldable pub walk_part : Cdhd → List ℕ
walk_part h = signed_field text_walk h.walkx ++ signed_field space h.walky

-- `object K id I box X Y W H walk X Y`
unfoldable pub object_line : ℕ → Cdhd → List ℕ
object_line k h = field text_object k ++ field text_id h.id ++ box_part h ++ walk_part h ++ newline

-- the line of object k, from where its CDHD stands and from its block; a room that passes its test has both (refusal 2)
abbrev pub line_at : List ℕ → ℕ → Result ℕ ℕ → List ℕ
line_at s k (Ok p) = object_line k (cdhd_at s p)
line_at s k (Err n) = []

abbrev pub line_in : List ℕ → ℕ → Option (ℕ × ℕ) → List ℕ
line_in s k (Some (b, z)) = line_at s k (cdhd_in s b z)
line_in s k None = []

-- the lines of objects 1 to n
unfoldable pub object_lines : List ℕ → ℕ → List ℕ
object_lines s zero = []
object_lines s (suc n) = object_lines s n ++ line_in s (suc n) (object_block s (suc n))

-- `refused N`
unfoldable pub refused_line : ℕ → List ℕ
refused_line n = field text_refused n ++ newline

abbrev pub listing_after : List ℕ → Result Room ℕ → List ℕ
listing_after s (Ok r) = room_line r ++ object_lines s r.objects
listing_after s (Err n) = refused_line n

-- the whole listing of a room's bytes
unfoldable pub listing_of : List ℕ → List ℕ
listing_of s = listing_after s (room_test nothing s)

-- the size that a buffer for a listing needs: the longest has 8,099 bytes
abbrev pub listing_size : ℕ
listing_size = 8192

-- how many bytes a call writes, and the lent buffer after it: a buffer that is too short gets none, and bytes past the text stay
abbrev pub written_count : List ℕ → List ℕ → ℕ
written_count text lent = cond (ltb (length lent) listing_size) 0 (length text)

abbrev pub written_over : List ℕ → List ℕ → List ℕ
written_over text lent = cond (ltb (length lent) listing_size) lent (over text lent)
