-- A room's listing (docs/LAYOUTS.md): its record, and a row of 32 bytes for each object, object 1 first. s is the room's bytes, o an object's number
-- from 1.
use Rattle.std.specs.Prelude.{ℕ, zero, suc, ◌+◌, ◌/◌, ◌^◌, cond, List, [], ◌++◌, length, replicate, Option, Result, Ok, Err}
use Rattle.number.specs.Number.{le16_bytes, le32_bytes}
use Rattle.number.specs.Buffer.{over}
use Rattle.room.specs.Test.{room_test, with_flags}
use Rattle.room.specs.declared.Room.{Room}
use Rattle.objects.specs.Object.{object_block, block_or_absent, header_in, header_bytes}
use Rattle.objects.specs.Name.{name_after, part_at}
use Rattle.objects.specs.declared.Part.{Part}
use Rattle.image.specs.Image.{drawable}

-- ---- a row

-- the object's header, as kg_header gives it; zeros for an OBCD without CDHD, which no room that passes its test has
abbrev pub header_part : List ℕ → Result ℕ ℕ → List ℕ
header_part s (Ok p) = header_bytes s p
header_part s (Err n) = replicate 16 0

-- where its name starts in the room, and the name's length; 0 and 0 where it has none
abbrev pub name_part : List ℕ → Option (ℕ × ℕ) → Part
name_part s block = part_at (name_after s (block_or_absent block))

-- which of states 1 to n can be drawn: bit st − 1 for state st
unfoldable pub state_bits : List ℕ → (o n : ℕ) → ℕ
state_bits s o zero = 0
state_bits s o (suc n) = state_bits s o n + cond (drawable s o (suc n)) (2 ^ n) 0

-- 16 bytes of header, 4 of the name's start, 4 of its length, 2 of the states, 6 zeros, for an object with this OBCD
unfoldable pub row_with : List ℕ → Option (ℕ × ℕ) → (states : ℕ) → List ℕ
row_with s block states =
    header_part s (header_in s (block_or_absent block))
    ++ le32_bytes (name_part s block).start
    ++ le32_bytes (name_part s block).count
    ++ le16_bytes states
    ++ replicate 6 0

-- the row of object o
abbrev pub row_bytes : List ℕ → (o : ℕ) → List ℕ
row_bytes s o = row_with s (object_block s o) (state_bits s o 9)

-- the rows of objects 1 to n, object 1 first
unfoldable pub rows_to : List ℕ → (n : ℕ) → List ℕ
rows_to s zero = []
rows_to s (suc n) = rows_to s n ++ row_bytes s (suc n)

-- ---- the call

-- the test that it makes, the room's own: 4 where the record has fewer than 16 bytes, or the rows fewer than 32 × objects. What a flag byte per object is
-- to another call, a row of 32 bytes is to this one
abbrev pub list_test : (s lent rows : List ℕ) → Result Room ℕ
list_test s lent rows = room_test (with_flags 16 (length lent) (length rows / 32)) s

-- the lent rows after the call: a refusal changes nothing, and bytes past 32 × objects stay. The record: crate objects, `record_after`
abbrev pub rows_after : List ℕ → Result Room ℕ → List ℕ → List ℕ
rows_after s (Ok r) rows = over (rows_to s r.objects) rows
rows_after s (Err n) rows = rows
