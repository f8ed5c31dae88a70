-- The refusals of an object's image (document 01, "Numbered refusals": "then 2 and 5 to 8 for an object's image, SMAP before its planes
-- as for the room"). An image stands in the payload [b, z) of its state's block and has n strips of h rows; the planes looked at are
-- those of the room, 1 to N.
use Rattle.std.specs.Prelude.{ℕ, ◌+◌, ◌/◌, List, Option, Some, None, Result, Err}
use Rattle.block.specs.Tag.{tag-SMAP}
use Rattle.block.specs.Tree.{find_tag}
use Rattle.room.specs.Picture.{smap_and_planes_test}
use Rattle.image.specs.Image.{image_width, image_height, state_block}

-- SMAP, where it was found, then planes 1 to N
abbrev pub smap_test : (planes n h : ℕ) → List ℕ → (b z : ℕ) → Option (ℕ × ℕ) → Result (Unit {0}) ℕ
smap_test planes n h s b z (Some (smap, end)) = smap_and_planes_test planes n h s b z smap end
smap_test planes n h s b z None = Err 2

-- the image in the payload [b, z)
unfoldable pub image_test : (planes n h : ℕ) → List ℕ → (b z : ℕ) → Result (Unit {0}) ℕ
image_test planes n h s b z = smap_test planes n h s b z (find_tag tag-SMAP s b z)

-- the image in its state's block
abbrev pub state_test : (planes n h : ℕ) → List ℕ → Option (ℕ × ℕ) → Result (Unit {0}) ℕ
state_test planes n h s (Some (b, z)) = image_test planes n h s (b + 8) z
state_test planes n h s None = Err 2

-- the object's image in the state: it has IMHD's width / 8 strips of IMHD's height
unfoldable pub image_fault : (planes : ℕ) → List ℕ → (o st : ℕ) → Result (Unit {0}) ℕ
image_fault planes s o st = state_test planes (image_width s o / 8) (image_height s o) s (state_block s o st)
