-- A reader over twelve literal bytes, from byte 2 on: seven bytes are fetched, eight bits handed out, one byte more fetched, and then five and
-- three bits handed out. The cursors, the numbers and the bits are literals, and all of it is computed.
use Rattle.std.proofs.Common.{refl, Bool, true, false, List, [], ◌∷◌, ℕ, lit<, lit≤}
use Rattle.bits.specs.declared.Cursor.{Cursor}
use Rattle.bits.specs.Bits.{low_bits, bits_of, rest}
use Rattle.bits.specs.Reader.{Starts, Fetches, Hands, Reads, starts, fetches, hands}
use Rattle.bits.proofs.CursorLaws.{hands-low}

abbrev pub body : List ℕ
body = 0x1C ∷ 0x05 ∷ 0xB6 ∷ 0x97 ∷ 0x00 ∷ 0x00 ∷ 0x01 ∷ 0x02 ∷ 0x03 ∷ 0x04 ∷ 0x05 ∷ 0x06 ∷ []

abbrev pub first : Cursor
first = record { at = 2; bits = 0; hold = 0 }

-- B6 97 00 00 01 02 03 held
abbrev pub seven : Cursor
seven = record { at = 9; bits = 56; hold = 0x030201000097B6 }

abbrev pub without-B6 : Cursor
without-B6 = record { at = 9; bits = 48; hold = 0x030201000097 }

-- 97 00 00 01 02 03 04 held
abbrev pub one_more : Cursor
one_more = record { at = 10; bits = 56; hold = 0x04030201000097 }

-- five bits of 97 are handed out, and then the other three
abbrev pub within-97 : Cursor
within-97 = record { at = 10; bits = 51; hold = 0x201810080004 }

abbrev pub without-97 : Cursor
without-97 = record { at = 10; bits = 48; hold = 0x040302010000 }

starts_first : Starts 2 first
unfolding rest low_bits
starts_first = record { place = refl; none = refl; all = λ s. refl; held = λ s le. record { few = lit≤ tt; low = lit< tt; inside = le } }

pub fetches-seven : Fetches body first seven
unfolding rest low_bits bits_of
fetches-seven = record { on = lit≤ tt; eight = refl; same = refl; held = record { few = lit≤ tt; low = lit< tt; inside = lit≤ tt } }

pub hands-B6 : Hands 8 0xB6 seven without-B6
hands-B6 = hands-low seven 8 (lit≤ tt)

pub fetches_one : Fetches body without-B6 one_more
unfolding rest low_bits bits_of
fetches_one = record { on = lit≤ tt; eight = refl; same = refl; held = record { few = lit≤ tt; low = lit< tt; inside = lit≤ tt } }

pub hands-five : Hands 5 23 one_more within-97
hands-five = hands-low one_more 5 (lit≤ tt)

pub hands-three : Hands 3 4 within-97 without-97
hands-three = hands-low within-97 3 (lit≤ tt)

abbrev pub handed_out : List Bool
handed_out =
    false ∷ true ∷ true ∷ false ∷ true ∷ true ∷ false ∷ true ∷ true ∷ true ∷ true ∷ false ∷ true ∷ false ∷ false ∷ true ∷ []

pub read_with_refills : Reads body 2 handed_out without-97
unfolding low_bits
read_with_refills = hands (hands (fetches (hands (fetches (starts starts_first) fetches-seven) hands-B6) fetches_one) hands-five) hands-three
