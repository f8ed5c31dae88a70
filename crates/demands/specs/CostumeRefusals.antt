-- Refusal 15 in document 01's words ("Actors, points, limbs"): "Wrong, so 15: chore above 243, direction above 3, record number at or past the count,
-- table or record outside the payload, command offset below 6 or past the end, window past the stream, or a lent active limb whose length isn't 1 to
-- 128, whose window passes the stream or whose place is outside its window." s is the payload, n the length of the stream.
use Rattle.std.specs.Prelude.{ℕ, ◌+◌, ◌-◌, ◌*◌, ◌≤◌, ◌<◌, ◌≡◌, true, List, ◌⊎◌, length}
use Rattle.limbs.specs.declared.Limb.{Limb}
use Rattle.limbs.specs.Limb.{flag, limb_at}
use Rattle.costume.specs.declared.Entry.{Entry}
use Rattle.costume.specs.declared.Entry.TheVariants.{Cut, Window}
use Rattle.costume.specs.Record.{entry_of}
use Rattle.costume.specs.Start.{record_number}

-- chore, direction, record number, and the table of `count` offsets at payload byte t
abbrev pub NumbersWrong : List ℕ → (t count chore direction : ℕ) → Type 0
NumbersWrong s t count chore direction =
    (243 < chore) ⊎ (3 < direction) ⊎ (count ≤ record_number chore direction) ⊎ (length s < t + 2 * count)

abbrev pub CommandWrong : List ℕ → ℕ → Type 0
CommandWrong s v = (v < 6) ⊎ (length s < v - 6)

-- an entry of a record isn't all in the payload, or its window passes the stream
abbrev pub EntryWrong : ℕ → Entry → Type 0
EntryWrong n e = (e ≡ Cut) ⊎ ((a : ℕ) × (len : ℕ) × (noloop : ℕ) × (e ≡ Window a len noloop) × (n < a + len))

-- the offset o of a record: "Offset 0, FFFF … is "not defined" …; 1 to 5 is 15", else the record stands at payload byte o - 6
abbrev pub RecordWrong : List ℕ → (o n : ℕ) → Type 0
RecordWrong s o n =
    (o ≡ 0 → ⊥) × (o ≡ 65535 → ⊥)
    × ((o < 6) ⊎ (length s < o - 6 + 2) ⊎ ((i : ℕ) × (i < 16) × EntryWrong n (entry_of s (o - 6) i)))

-- "a lent active limb whose length isn't 1 to 128 … or whose place is outside its window"
abbrev pub PlaceWrong : Limb → Type 0
PlaceWrong x = (flag x.active ≡ true) × ((x.len < 1) ⊎ (128 < x.len) ⊎ (x.place < x.start) ⊎ (x.start + x.len ≤ x.place))

-- or "whose window passes the stream"
abbrev pub LimbWrong : ℕ → Limb → Type 0
LimbWrong n x = PlaceWrong x ⊎ ((flag x.active ≡ true) × (n < x.start + x.len))

abbrev pub SomePlaceWrong : List ℕ → Type 0
SomePlaceWrong l = (i : ℕ) × (i < 16) × PlaceWrong (limb_at l i)

abbrev pub SomeLimbWrong : ℕ → List ℕ → Type 0
SomeLimbWrong n l = (i : ℕ) × (i < 16) × LimbWrong n (limb_at l i)
