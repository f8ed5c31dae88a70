-- Which OBIM is an object's image, what its IMHD says, and where the block of an image state stands (document 01, "Blocks", and the
-- first paragraph of "Sessions"; IMHD as in source 003). s is the room's bytes, o an object's number from 1, st an image state.
use Rattle.std.specs.Prelude.{ℕ, ◌+◌, List, [], ◌∷◌, Bool, false, ◌&&◌, cond, length, leb, eqb, Option, Some, None}
use Rattle.number.specs.Number.{le16}
use Rattle.block.specs.Tag.{tag-OBCD, tag-OBIM, tag-CDHD, tag-IMHD, tag-IM}
use Rattle.block.specs.Tree.{tagged, count_tag, find_tag, need_tag, is_at}
use Rattle.objects.specs.Object.{object_block}

-- objects: the OBCD blocks directly under ROOM
abbrev pub object_count : List ℕ → ℕ
object_count s = count_tag tag-OBCD s 8 (length s)

-- the u16 at n in a header's payload; 0 where there is no header
abbrev pub field : List ℕ → ℕ → Option (ℕ × ℕ) → ℕ
field s n (Some (p, z)) = le16 s (p + n)
field s n None = 0

-- the id that a header starts with; 0 where there is no header
abbrev pub id_at : List ℕ → Option (ℕ × ℕ) → ℕ
id_at s (Some (p, z)) = le16 s p
id_at s None = 0

-- the payload of an OBCD's CDHD, and of an OBIM's IMHD
abbrev pub cdhd_of : List ℕ → Option (ℕ × ℕ) → Option (ℕ × ℕ)
cdhd_of s (Some (b, z)) = need_tag tag-CDHD 13 s (b + 8) z
cdhd_of s None = None

abbrev pub imhd_of : List ℕ → Option (ℕ × ℕ) → Option (ℕ × ℕ)
imhd_of s (Some (b, z)) = need_tag tag-IMHD 16 s (b + 8) z
imhd_of s None = None

-- the id in the object's CDHD
unfoldable pub object_id : List ℕ → ℕ → ℕ
object_id s o = id_at s (cdhd_of s (object_block s o))

-- a header is there and has the id
abbrev pub header_has : List ℕ → ℕ → Option (ℕ × ℕ) → Bool
header_has s id (Some (p, z)) = eqb (le16 s p) id
header_has s id None = false

-- the OBIM's IMHD has the id
unfoldable pub has_id : List ℕ → ℕ → Option (ℕ × ℕ) → Bool
has_id s id f = header_has s id (imhd_of s f)

-- the first of the blocks that passes
unfoldable pub first_of : (Option (ℕ × ℕ) → Bool) → List (Option (ℕ × ℕ)) → Option (ℕ × ℕ)
first_of passes [] = None
first_of passes (f ∷ l) = cond (passes f) f (first_of passes l)

-- the object's image: the first OBIM directly under ROOM of equal id, if any
unfoldable pub image_block : List ℕ → ℕ → Option (ℕ × ℕ)
image_block s o = cond (is_at (object_block s o)) (first_of (has_id s (object_id s o)) (tagged tag-OBIM s 8 (length s))) None

-- what its IMHD says, in pixels; 0 for an object with no image
unfoldable pub image_count : List ℕ → ℕ → ℕ
image_count s o = field s 2 (imhd_of s (image_block s o))

unfoldable pub home_x : List ℕ → ℕ → ℕ
home_x s o = field s 8 (imhd_of s (image_block s o))

unfoldable pub home_y : List ℕ → ℕ → ℕ
home_y s o = field s 10 (imhd_of s (image_block s o))

unfoldable pub image_width : List ℕ → ℕ → ℕ
image_width s o = field s 12 (imhd_of s (image_block s o))

unfoldable pub image_height : List ℕ → ℕ → ℕ
image_height s o = field s 14 (imhd_of s (image_block s o))

-- the first block of the state in an OBIM
abbrev pub state_in : List ℕ → ℕ → Option (ℕ × ℕ) → Option (ℕ × ℕ)
state_in s st (Some (b, z)) = find_tag (tag-IM st) s (b + 8) z
state_in s st None = None

-- the block of the object's image in the state
unfoldable pub state_block : List ℕ → (o st : ℕ) → Option (ℕ × ℕ)
state_block s o st = state_in s st (image_block s o)

-- there is such an object
abbrev pub is_object : List ℕ → ℕ → Bool
is_object s o = leb 1 o && leb o (object_count s)

-- the state is 1 to 9, and up to numImages
abbrev pub state_right : (st images : ℕ) → Bool
state_right st images = leb 1 st && leb st 9 && leb st images

-- a draw of the object in the state isn't 11: there is such an object, it has an image, the state is right, and its block is present
unfoldable pub drawable : List ℕ → (o st : ℕ) → Bool
drawable s o st = is_object s o && is_at (image_block s o) && state_right st (image_count s o) && is_at (state_block s o st)
