-- An object's header (document 01, "Blocks"; CDHD as in source 003). Objects are numbered from 1 in OBCD order.
use Rattle.std.specs.Prelude.{ℕ, ◌+◌, ◌-◌, List, [], ◌∷◌, cond, get_or, length, eqb, Option, Some, None, Result, Ok, Err}
use Rattle.number.specs.Number.{le16, sle16}
use Rattle.number.specs.Buffer.{over}
use Rattle.block.specs.Tag.{tag-OBCD, tag-CDHD}
use Rattle.block.specs.Tree.{nth_tag, need_tag}
use Rattle.room.specs.Test.{room_test, fixed_only}
use Rattle.objects.specs.declared.Cdhd.{Cdhd}
use Rattle.room.specs.declared.Lent.{Lent}
use Rattle.room.specs.declared.Room.{Room}

-- what the CDHD whose payload is at p says: x, y, width and height in strips of 8 pixels, the walk point signed and in pixels
unfoldable pub cdhd_at : List ℕ → ℕ → Cdhd
cdhd_at s p =
    record {
      id = le16 s p;
      x = get_or s (p + 2) 0;
      y = get_or s (p + 3) 0;
      width = get_or s (p + 4) 0;
      height = get_or s (p + 5) 0;
      flags = get_or s (p + 6) 0;
      parent = get_or s (p + 7) 0;
      walkx = sle16 s (p + 8);
      walky = sle16 s (p + 10);
      direction = get_or s (p + 12) 0;
    }

-- the payload of an OBCD's CDHD
abbrev pub payload_at : Option (ℕ × ℕ) → Result ℕ ℕ
payload_at (Some (p, z)) = Ok p
payload_at None = Err 2

abbrev pub cdhd_in : List ℕ → (b z : ℕ) → Result ℕ ℕ
cdhd_in s b z = payload_at (need_tag tag-CDHD 13 s (b + 8) z)

-- the block of object k, counted from 1
unfoldable pub object_block : List ℕ → ℕ → Option (ℕ × ℕ)
object_block s k = cond (eqb k 0) None (nth_tag tag-OBCD s 8 (length s) (k - 1))

-- the block of the object that a call names: the room's refusals, then 11 where there is no such object
abbrev pub block_or_absent : Option (ℕ × ℕ) → Result (ℕ × ℕ) ℕ
block_or_absent (Some (b, z)) = Ok (b, z)
block_or_absent None = Err 11

abbrev pub chosen_after : List ℕ → ℕ → Result Room ℕ → Result (ℕ × ℕ) ℕ
chosen_after s k (Ok r) = block_or_absent (object_block s k)
chosen_after s k (Err n) = Err n

unfoldable pub chosen_block : Lent → List ℕ → ℕ → Result (ℕ × ℕ) ℕ
chosen_block lent s k = chosen_after s k (room_test lent s)

-- where its header stands
abbrev pub header_in : List ℕ → Result (ℕ × ℕ) ℕ → Result ℕ ℕ
header_in s (Ok (b, z)) = cdhd_in s b z
header_in s (Err n) = Err n

unfoldable pub header_place : Lent → List ℕ → ℕ → Result ℕ ℕ
header_place lent s k = header_in s (chosen_block lent s k)

-- the header as 16 bytes (docs/LAYOUTS.md): the 13 of CDHD, then zeros
unfoldable pub header_bytes : List ℕ → ℕ → List ℕ
header_bytes s p =
    get_or s p 0
    ∷ get_or s (p + 1) 0
    ∷ get_or s (p + 2) 0
    ∷ get_or s (p + 3) 0
    ∷ get_or s (p + 4) 0
    ∷ get_or s (p + 5) 0
    ∷ get_or s (p + 6) 0
    ∷ get_or s (p + 7) 0
    ∷ get_or s (p + 8) 0
    ∷ get_or s (p + 9) 0
    ∷ get_or s (p + 10) 0
    ∷ get_or s (p + 11) 0
    ∷ get_or s (p + 12) 0
    ∷ 0
    ∷ 0
    ∷ 0
    ∷ []

-- document 01's number for an answer
abbrev pub place_number : Result ℕ ℕ → ℕ
place_number (Ok p) = 0
place_number (Err n) = n

-- the lent header after the call: a refusal changes nothing, and bytes past the 16 stay
abbrev pub header_after : List ℕ → Result ℕ ℕ → List ℕ → List ℕ
header_after s (Ok p) lent = over (header_bytes s p) lent
header_after s (Err n) lent = lent

abbrev pub header_call : List ℕ → List ℕ → ℕ → Result ℕ ℕ
header_call s lent k = header_place (fixed_only 16 (length lent)) s k
