-- The start of an animation (document 01, "Actors, points, limbs"). The offset table has count u16 little-endian entries from payload byte t.
use Rattle.std.specs.Prelude.{Bool, ◌&&◌, ◌||◌, not, cond, List, ℕ, ◌+◌, ◌-◌, ◌*◌, length, ltb, leb, eqb, Result, Ok, Err}
use Rattle.number.specs.Number.{le16}
use Rattle.limbs.specs.Limb.{limbs_right, each_limb}
use Rattle.limbs.specs.Tick.{command_right, stream}
use Rattle.costume.specs.declared.Started.{Started}
use Rattle.costume.specs.declared.Started.TheVariants.{Set, Undefined}
use Rattle.costume.specs.Record.{mask_of, entry_of, record_right, begun_limb}

-- the number of the record, and the offset that the table stores for it
abbrev pub record_number : ℕ → ℕ → ℕ
record_number chore direction = 4 * chore + direction

abbrev pub offset_at : List ℕ → (t chore direction : ℕ) → ℕ
offset_at s t chore direction = le16 s (t + 2 * record_number chore direction)

-- chore up to 243, direction up to 3, the record's number below the count, and the table in the payload
unfoldable pub numbers_right : List ℕ → (t count chore direction : ℕ) → Bool
numbers_right s t count chore direction =
    leb chore 243 && leb direction 3 && ltb (record_number chore direction) count && leb (t + 2 * count) (length s)

-- offsets that stand for no record: 0 and FFFF
abbrev pub no_record : ℕ → Bool
no_record o = eqb o 0 || eqb o 0xFFFF

-- a stored offset is right: it stands for no record, or is no offset from 1 to 5 and the record at payload byte o - 6 is right
unfoldable pub offset_right : List ℕ → ℕ → ℕ → Bool
offset_right s o n = no_record o || (leb 6 o && record_right s (o - 6) n)

-- an animation is defined unless its offset stands for no record or its mask is zero
unfoldable pub defined : List ℕ → ℕ → Bool
defined s o = not (no_record o) && not (eqb (mask_of s (o - 6)) 0)

-- the number of a start: 4 where the 16 limbs are not lent whole, then 15
unfoldable pub start_number : (s l : List ℕ) → (t count v chore direction : ℕ) → ℕ
start_number s l t count v chore direction =
    cond (ltb (length l) 256) 4
    (cond
    (numbers_right s t count chore direction && command_right s v && limbs_right (length (stream s v)) l
    && offset_right s (offset_at s t chore direction) (length (stream s v)))
    0
    15)

-- the answer: set, not defined, or refused
unfoldable pub started_of : (s l : List ℕ) → (t count v chore direction : ℕ) → Result Started ℕ
started_of s l t count v chore direction =
    cond (eqb (start_number s l t count v chore direction) 0)
    (cond (defined s (offset_at s t chore direction)) (Ok Set) (Ok Undefined))
    (Err (start_number s l t count v chore direction))

-- the lent bytes after it: each named limb is set by its entry; as they were where it is refused or not defined
unfoldable pub start_bytes : (s l : List ℕ) → (t count v chore direction : ℕ) → List ℕ
start_bytes s l t count v chore direction =
    cond (eqb (start_number s l t count v chore direction) 0 && defined s (offset_at s t chore direction))
    (each_limb (λ i. begun_limb (entry_of s (offset_at s t chore direction - 6) i)) 16 l)
    l

-- document 01's number for each case of an answer: "not defined" is accepted
abbrev pub number : Result Started ℕ → ℕ
number (Err n) = n
number (Ok a) = 0

-- and its value: 1 where the limbs are set, else 0
abbrev pub value : Result Started ℕ → ℕ
value (Err n) = 0
value (Ok Set) = 1
value (Ok Undefined) = 0
