-- An object's name, as a part of the lent room bytes: OBNA up to its first NUL or its end, `@` kept, empty if there is no OBNA
-- (document 01, "Blocks"). A refused call answers an empty part; a second call gives its number.
use Rattle.std.specs.Prelude.{ℕ, zero, suc, ◌+◌, ◌-◌, ◌*◌, List, [], cond, get_or, take, drop, eqb, Option, Some, None, Result, Ok, Err}
use Rattle.block.specs.Tag.{tag-OBNA}
use Rattle.block.specs.Tree.{need_tag}
use Rattle.room.specs.Test.{nothing}
use Rattle.objects.specs.Object.{chosen_block}
use Rattle.objects.specs.declared.Part.{Part}

-- the first of n bytes from p on that is 0, or the end of those bytes
unfoldable pub nul_from : ℕ → List ℕ → ℕ → ℕ
nul_from zero s p = p
nul_from (suc n) s p = let r = nul_from n s (p + 1) in cond (eqb (get_or s p 0) 0) p r

-- of OBNA's payload, the part before its first NUL
unfoldable pub before_nul : List ℕ → Option (ℕ × ℕ) → Option (ℕ × ℕ)
before_nul s (Some (p, z)) = Some (p, nul_from (z - p) s p)
before_nul s None = None

-- of an OBCD, where its name stands
unfoldable pub name_in : List ℕ → (b z : ℕ) → Option (ℕ × ℕ)
name_in s b z = before_nul s (need_tag tag-OBNA 0 s (b + 8) z)

-- where the name of object k stands; None where the call is refused or the object has no OBNA
abbrev pub name_after : List ℕ → Result (ℕ × ℕ) ℕ → Option (ℕ × ℕ)
name_after s (Ok (b, z)) = name_in s b z
name_after s (Err n) = None

unfoldable pub name_place : List ℕ → ℕ → Option (ℕ × ℕ)
name_place s k = name_after s (chosen_block nothing s k)

-- the part of the room; empty where there is no name
abbrev pub part_at : Option (ℕ × ℕ) → Part
part_at (Some (a, z)) = record { start = a; count = z - a }
part_at None = record { start = 0; count = 0 }

-- the name's bytes
abbrev pub part_of : List ℕ → Option (ℕ × ℕ) → List ℕ
part_of s (Some (a, z)) = take (z - a) (drop a s)
part_of s None = []

abbrev pub name_of : List ℕ → ℕ → List ℕ
name_of s k = part_of s (name_place s k)

-- the place as one number: the start, and the length above 32 bits; 0 where there is no name
abbrev pub place_word : Option (ℕ × ℕ) → ℕ
place_word (Some (a, z)) = a + (z - a) * 4294967296
place_word None = 0

-- the number of the call: the room's refusals, then 11 where there is no such object, else 0
abbrev pub chosen_number : Result (ℕ × ℕ) ℕ → ℕ
chosen_number (Ok (b, z)) = 0
chosen_number (Err n) = n

unfoldable pub name_number : List ℕ → ℕ → ℕ
name_number s k = chosen_number (chosen_block nothing s k)
