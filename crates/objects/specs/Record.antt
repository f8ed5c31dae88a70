-- The room's record (docs/LAYOUTS.md): W, H, N and the object count as little-endian u16, the transparent index, and zeros to 16 bytes.
use Rattle.std.specs.Prelude.{ℕ, ◌/◌, ◌%◌, List, [], ◌∷◌, length, Result, Ok, Err}
use Rattle.number.specs.Buffer.{over}
use Rattle.room.specs.Test.{room_test, fixed_only}
use Rattle.room.specs.declared.Room.{Room}

-- the low and the high byte of a u16
abbrev pub low : ℕ → ℕ
low n = n % 256

abbrev pub high : ℕ → ℕ
high n = n / 256 % 256

unfoldable pub record_bytes : Room → List ℕ
record_bytes r =
    low r.width
    ∷ high r.width
    ∷ low r.height
    ∷ high r.height
    ∷ low r.planes
    ∷ high r.planes
    ∷ low r.objects
    ∷ high r.objects
    ∷ r.clear
    ∷ 0
    ∷ 0
    ∷ 0
    ∷ 0
    ∷ 0
    ∷ 0
    ∷ 0
    ∷ []

-- the lent record after the call: a refusal changes nothing, and bytes past the 16 stay
abbrev pub record_after : Result Room ℕ → List ℕ → List ℕ
record_after (Ok r) lent = over (record_bytes r) lent
record_after (Err n) lent = lent

-- the test that the call makes: the record is 16 bytes
abbrev pub record_test : List ℕ → List ℕ → Result Room ℕ
record_test s lent = room_test (fixed_only 16 (length lent)) s
