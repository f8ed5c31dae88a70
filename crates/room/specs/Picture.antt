-- The picture in an IM block, a room's background or an object's image: its test, SMAP and then planes 1 to N, and its planes' bytes (document
-- 01, "Blocks", "Numbered refusals"). It stands in the payload [b, z) of its block and has n strips of h rows; N is the room's.
use Rattle.std.specs.Prelude.{ℕ, List, true, false, Option, Some, None, Result, Ok}
use Rattle.block.specs.Tag.{tag-ZP}
use Rattle.block.specs.Tree.{find_tag}
use Rattle.table.specs.Body.{mask_at}
use Rattle.table.specs.Test.{and_then, leftmost, block_test}

-- where plane k stands, with its header
abbrev pub plane_in : List ℕ → (b z k : ℕ) → Option (ℕ × ℕ)
plane_in s b z k = find_tag (tag-ZP k) s b z

-- a plane's mask byte in strip k, row y; a missing plane is all zero
abbrev pub found_mask : (n h : ℕ) → List ℕ → Option (ℕ × ℕ) → (k y : ℕ) → ℕ
found_mask n h s (Some (b, z)) k y = mask_at n h s b z k y
found_mask n h s None k y = 0

-- the test of a plane, where it was found; a missing one passes
abbrev pub plane_found : (n h : ℕ) → List ℕ → Option (ℕ × ℕ) → Result (Unit {0}) ℕ
plane_found n h s (Some (b, z)) = block_test true n h s b z
plane_found n h s None = Ok tt

unfoldable pub plane_test : (n h : ℕ) → List ℕ → (b z k : ℕ) → Result (Unit {0}) ℕ
plane_test n h s b z k = plane_found n h s (plane_in s b z k)

-- the SMAP block [smap, end), then planes 1 to N
unfoldable pub smap_and_planes_test : (planes n h : ℕ) → List ℕ → (b z smap end : ℕ) → Result (Unit {0}) ℕ
smap_and_planes_test planes n h s b z smap end = and_then (block_test false n h s smap end) (leftmost (plane_test n h s b z) 1 planes)
