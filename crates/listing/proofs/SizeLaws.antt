-- How long a listing is: at most 8,099 bytes, so that every listing fits a buffer of 8,192.
use Rattle.std.proofs.Common.{◌≡◌, refl, Bool, true, false, cond, List, ℕ, zero, suc, ◌+◌, ◌-◌, ◌*◌, ◌≤◌, ◌<◌, add-one, arith, ltb, get_or, length, length-append, Option, Some, None, Result, Ok, Err}
use lib.IntN.{pos, negsuc}
use Rattle.number.specs.Number.{le16, signed16}
use Rattle.room.specs.Test.{room_test, nothing, number_of}
use Rattle.room.specs.declared.Room.{Room}
use Rattle.room.proofs.TestLaws.{test-passes}
use Rattle.objects.specs.Object.{cdhd_at, cdhd_in, object_block}
use Rattle.listing.specs.Decimal.{decimal, signed}
use Rattle.listing.specs.Listing.{text_walk, space, field, signed_field, room_line, box_part, walk_part, object_line, line_at, line_in, object_lines}
use Rattle.listing.specs.Listing.{refused_line, listing_after, listing_of}
use Rattle.listing.proofs.DecimalLaws.{short-one, short-three, short-four, short-five}
use Rattle.listing.proofs.LineLaws.{Bytes, lines_more}

field-length : (text : List ℕ) (n : ℕ) → length (field text n) ≡ length text + length (decimal n)
unfolding field
field-length text n = length-append text (decimal n)

-- a signed number of 16 bits has at most 5 digits and a sign
signed-short : (n : ℕ) → n < 65536 → length (signed (signed16 n)) ≤ 6
signed-short n h = go (ltb n 32768) refl
  where
    go : (t : Bool) → ltb n 32768 ≡ t → length (signed (cond t (pos n) (negsuc (65535 - n)))) ≤ 6
    go true e = omega (arith, short-five n (omega arith))
    go false e = omega (arith, short-five (suc (65535 - n)) (omega arith))

walk-length : (text : List ℕ) (n : ℕ) → n < 65536 → length (signed_field text (signed16 n)) ≤ length text + 6
unfolding signed_field
walk-length text n h = rw (length-append text (signed (signed16 n))) (omega (arith, signed-short n h))

-- `room 1024 200 planes 4 objects 128` and its newline
room-short : (r : Room) → r.width ≤ 1024 → r.height ≤ 200 → r.planes ≤ 4 → r.objects ≤ 128 → length (room_line r) ≤ 35
unfolding room_line
room-short r w h n k =
    simp (length-append, field-length)
    (omega (
      arith,
      short-four r.width (omega arith),
      short-three r.height (omega arith),
      short-one r.planes (omega arith),
      short-three r.objects (omega arith),
    ))

pub refused-short : (n : ℕ) → n < 256 → length (refused_line n) ≤ 12
unfolding refused_line
refused-short n h = simp (length-append, field-length) (omega (arith, short-three n (omega arith)))

module _ (s : List ℕ) (bytes : Bytes s) where
  le16-small : (p : ℕ) → le16 s p < 65536
  le16-small p = omega (arith, bytes p, bytes (p + 1))

  -- ` box 2040 2040 2040 2040`
  box_short : (p : ℕ) → length (box_part (cdhd_at s p)) ≤ 24
  unfolding box_part cdhd_at
  box_short p =
      simp (length-append, field-length)
      (omega (
        arith,
        short-four (get_or s (p + 2) 0 * 8) (omega (arith, bytes (p + 2))),
        short-four (get_or s (p + 3) 0 * 8) (omega (arith, bytes (p + 3))),
        short-four (get_or s (p + 4) 0 * 8) (omega (arith, bytes (p + 4))),
        short-four (get_or s (p + 5) 0 * 8) (omega (arith, bytes (p + 5))),
      ))

  -- ` walk -32768 -32768`
  walk-short : (p : ℕ) → length (walk_part (cdhd_at s p)) ≤ 19
  unfolding walk_part cdhd_at
  walk-short p =
      simp length-append
      (omega (arith, walk-length text_walk (le16 s (p + 8)) (le16-small (p + 8)), walk-length space (le16 s (p + 10)) (le16-small (p + 10))))

  -- `object 128 id 65535`, box and walk point, and the newline
  object_short : (k p : ℕ) → k ≤ 128 → length (object_line k (cdhd_at s p)) ≤ 63
  unfolding object_line cdhd_at
  object_short k p h =
      simp (length-append, field-length)
      (omega (arith, short-three k (omega arith), short-five (le16 s p) (omega (arith, le16-small p)), box_short p, walk-short p))

  line_short : (k : ℕ) → k ≤ 128 → length (line_in s k (object_block s k)) ≤ 63
  line_short k h = on (object_block s k)
    where
      header : (q : Result ℕ ℕ) → length (line_at s k q) ≤ 63
      header (Ok p) = object_short k p h
      header (Err n) = omega arith

      on : (f : Option (ℕ × ℕ)) → length (line_in s k f) ≤ 63
      on (Some (b, z)) = header (cdhd_in s b z)
      on None = omega arith

  lines_short : (n : ℕ) → n ≤ 128 → length (object_lines s n) ≤ 63 * n
  lines_short zero h = unfold object_lines in omega arith
  lines_short (suc n) h =
      rw (← add-one n, lines_more s n, length-append (object_lines s n) (line_in s (n + 1) (object_block s (n + 1))))
      (omega (arith, lines_short n (omega arith), line_short (n + 1) (omega arith)))

  -- a listing's length, by what the room's test gives: a refusal's number is a byte
  after-short : (t : Result Room ℕ) → t ≡ room_test nothing s → number_of t < 256 → length (listing_after s t) ≤ 8099
  after-short (Ok r) e h =
      let sound = (test-passes nothing s r e).sound in
      rw (length-append (room_line r) (object_lines s r.objects))
      (omega (
        arith,
        sound.counted,
        lines_short r.objects sound.counted,
        room-short r sound.widest sound.highest sound.few sound.counted,
      ))
  after-short (Err n) e h = omega (arith, refused-short n h)

  pub listing_short : (t : Result Room ℕ) → t ≡ room_test nothing s → number_of t < 256 → length (listing_of s) ≤ 8099
  unfolding listing_of
  listing_short t e h = rw (← e) (after-short t e h)
