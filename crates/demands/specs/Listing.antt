-- kg_list, a listing of a room in one test, says what the calls say one by one: kg_record of the room, kg_header, kg_name and kg_name_number of each object,
-- and which of its states a draw doesn't refuse with 11.
--
-- Said of what the contracts of the calls promise (crate kildegrom): `list_test`, `record_after` and `rows_after` of kg_list; `record_test` of kg_record,
-- `header_call` and `header_after` of kg_header, `name_place` and `name_number` of kg_name; `drawable`: page Refusals, `eleven_draw`. When each
-- number is given: page Refusals too.
use Rattle.std.specs.Prelude.{ℕ, ◌+◌, ◌-◌, ◌*◌, ◌/◌, ◌%◌, ◌^◌, ◌≤◌, ◌<◌, ◌≡◌, true, List, ◌↔◌, ◌⊎◌, length, get_or}
use Rattle.number.specs.Number.{le16, le32}
use Rattle.room.specs.Test.{number_of}
use Rattle.objects.specs.Record.{record_test, record_after}
use Rattle.objects.specs.Object.{place_number, header_call, header_after}
use Rattle.objects.specs.Name.{name_place, place_word, name_number}
use Rattle.image.specs.Image.{object_count, drawable}
use Rattle.object_list.specs.List.{list_test, rows_after}

-- where the row of object o starts
abbrev pub row_at : ℕ → ℕ
row_at o = 32 * (o - 1)

-- the rows, afterwards l, have the row of object o
pub record RowReads (s l : List ℕ) (o : ℕ) : Type 0 where
  -- 16 bytes that are those which kg_header leaves in a lent header; and it is accepted
  pub header-accepted : (out : List ℕ) → 16 ≤ length out → place_number (header_call s out o) ≡ 0
  pub header : (out : List ℕ) → 16 ≤ length out → (j : ℕ) → j < 16 → get_or l (row_at o + j) 0 ≡ get_or (header_after s (header_call s out o) out) j 0
  -- the two halves of what kg_name answers, its start and its length; and its number is 0
  pub name-accepted : name_number s o ≡ 0
  pub name : le32 l (row_at o + 16) + le32 l (row_at o + 20) * 4294967296 ≡ place_word (name_place s o)
  pub halves : (le32 l (row_at o + 16) < 4294967296) × (le32 l (row_at o + 20) < 4294967296)
  -- bit st − 1 for state st: set exactly where it can be drawn; there are no others
  pub states : (st : ℕ) → 1 ≤ st → st ≤ 9 → (le16 l (row_at o + 24) / 2 ^ (st - 1) % 2 ≡ 1) ↔ (drawable s o st ≡ true)
  pub nine : le16 l (row_at o + 24) < 512
  pub zeros : (j : ℕ) → 26 ≤ j → j < 32 → get_or l (row_at o + j) 0 ≡ 0

pub record Listing : Type 0 where
  -- accepted exactly where kg_record is, with the same record lent, and the rows have 32 bytes for each object
  pub accepted : (s out rows : List ℕ) → (number_of (list_test s out rows) ≡ 0) ↔ ((number_of (record_test s out) ≡ 0) × (32 * object_count s ≤ length rows))
  -- with rows that are long enough it gives the number that kg_record gives
  pub enough : (s out rows : List ℕ) → 32 * object_count s ≤ length rows → number_of (list_test s out rows) ≡ number_of (record_test s out)
  -- with shorter ones it gives 4, but for kg_record's 1 to 3, which come before it
  pub first : (s out rows : List ℕ) → length rows < 32 * object_count s → let n = number_of (record_test s out) in
      1 ≤ n → n ≤ 3 → number_of (list_test s out rows) ≡ n
  pub short : (s out rows : List ℕ) → length rows < 32 * object_count s → let n = number_of (record_test s out) in
      (n ≡ 0) ⊎ (4 ≤ n) → number_of (list_test s out rows) ≡ 4
  -- accepted, it leaves the record that kg_record leaves
  pub same_record : (s out rows : List ℕ) → number_of (list_test s out rows) ≡ 0
      → record_after (list_test s out rows) out ≡ record_after (record_test s out) out
  -- and a row for each object, 1 to the count
  pub rows_read : (s out rows : List ℕ) → number_of (list_test s out rows) ≡ 0 → (o : ℕ) → 1 ≤ o → o ≤ object_count s
      → RowReads s (rows_after s (list_test s out rows) rows) o
  -- the rows keep their length, accepted or not, and accepted every byte behind the last row stays; refused, every byte does: page Demand1
  pub same_length : (s out rows : List ℕ) → length (rows_after s (list_test s out rows) rows) ≡ length rows
  pub past : (s out rows : List ℕ) → number_of (list_test s out rows) ≡ 0 → (j : ℕ) → 32 * object_count s ≤ j
      → get_or (rows_after s (list_test s out rows) rows) j 0 ≡ get_or rows j 0
