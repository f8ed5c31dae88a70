-- A strip's code, where its pixels lie, and a whole strip body (document 01, "Strips of pixels").
use Rattle.std.specs.Prelude.{◌≡◌, ℕ, zero, suc, ◌+◌, ◌-◌, ◌*◌, ◌/◌, ◌%◌, ◌≤◌, ◌==◌, nat_le, nat_lt, Result, Ok, Err}
use Rattle.std.specs.Prelude.{Bool, true, false, cond, ◌&&◌, List, [], ◌∷◌, ◌++◌, length, slice_index}
use Rattle.number.specs.Buffer.{over}
use Rattle.bits.specs.Bits.{bits_of}
use Rattle.strip.specs.Strip.{Strip, refused, values, decode}
use Rattle.strip.specs.declared.Kind.{Kind}
use Rattle.strip.specs.declared.Kind.TheVariants.{Raw, Coded, Unknown}

-- the code is one of the five from low on
unfoldable pub five_from : (low code : ℕ) → Bool
five_from low code = nat_le low code && nat_le code (low + 4)

-- the codes in document 01's order: each says second method, vertical, transparent, and the index bits
unfoldable pub kind_of : (code : ℕ) → Kind
kind_of code =
    cond (code == 0x01) Raw
    (cond (five_from 0x0E code) (Coded false true false (code - 0x0A))
    (cond (five_from 0x18 code) (Coded false false false (code - 0x14))
    (cond (five_from 0x22 code) (Coded false true true (code - 0x1E))
    (cond (five_from 0x2C code) (Coded false false true (code - 0x28))
    (cond (five_from 0x40 code) (Coded true false false (code - 0x3C))
    (cond (five_from 0x54 code) (Coded true false true (code - 0x50))
    (cond (five_from 0x68 code) (Coded true false true (code - 0x64))
    (cond (five_from 0x7C code) (Coded true false false (code - 0x78))
    Unknown))))))))

-- which pixel, in the order in which they are made, stands at j counted by rows: pixel i lies at row i / 8, column i mod 8, or vertical at
-- column i / H, row i mod H
abbrev pub source_of : (vertical : Bool) (height j : ℕ) → ℕ
source_of false height j = j
source_of true height j = j % 8 * height + j / 8

-- f 0, f 1, .. f (n - 1)
abbrev pub up_to : (ℕ → ℕ) → ℕ → List ℕ
up_to f zero = []
up_to f (suc n) = up_to f n ++ (f n ∷ [])

-- the 8H pixels by rows
unfoldable pub placed : (vertical : Bool) (height : ℕ) (made : List ℕ) → List ℕ
placed vertical height made = up_to (λ j. slice_index made (source_of vertical height j)) (8 * height)

-- a strip: its pixels by rows, and whether its code is a transparent one; or the number of its refusal
pub data Picture : Type 0 where
  refusal : ℕ → Picture
  picture : (clear : Bool) (pixels : List ℕ) → Picture

-- raw: the 8H pixel bytes follow the code, by rows (change request 5)
unfoldable pub raw_of : (height : ℕ) (bytes : List ℕ) → Picture
raw_of height bytes = cond (nat_lt (length bytes) (8 * height)) (refusal 7) (picture false (placed false height bytes))

-- what the operations of a strip give, each pixel in its place
abbrev pub shown : (vertical clear : Bool) (height : ℕ) → Strip → Picture
shown vertical clear height (refused n) = refusal n
shown vertical clear height (values made) = picture clear (placed vertical height made)

-- the others, after the code: pixel 0 is the first colour, and each operation gives the next
unfoldable pub coded_of : (second vertical clear : Bool) (width height : ℕ) (bytes : List ℕ) → Picture
coded_of second vertical clear width height [] = refusal 7
coded_of second vertical clear width height (colour ∷ bytes) = shown vertical clear height (decode second width (8 * height) 1 colour 1 (bits_of bytes))

-- a strip from the bytes after its code, by what the code says
abbrev pub by_kind : (height : ℕ) (bytes : List ℕ) → Kind → Picture
by_kind height bytes Raw = raw_of height bytes
by_kind height bytes (Coded second vertical clear width) = coded_of second vertical clear width height bytes
by_kind height bytes Unknown = refusal 6

-- a whole body: its code is judged (6) before its colour is looked for (7)
unfoldable pub strip_of : (height : ℕ) (body : List ℕ) → Picture
strip_of height [] = refusal 7
strip_of height (code ∷ bytes) = by_kind height bytes (kind_of code)

-- ---- for the proofs: no public promise rests on what follows

-- index bits are 4 to 8
abbrev pub Width : Kind → Type 0
Width Raw = Unit {0}
Width (Coded second vertical clear width) = (4 ≤ width) × (width ≤ 8)
Width Unknown = Unit {0}

-- the code's answer to a strip, and the buffer d after it: a refusal changes nothing
abbrev pub answer_of : Picture → Result Bool ℕ
answer_of (refusal n) = Err n
answer_of (picture clear pixels) = Ok clear

abbrev pub drawn_over : Picture → List ℕ → List ℕ
drawn_over (refusal n) d = d
drawn_over (picture clear pixels) d = over pixels d

abbrev pub Answered : Picture → List ℕ → List ℕ → Result Bool ℕ → Type 0
Answered p d e r = (r ≡ answer_of p) × (e ≡ drawn_over p d)
