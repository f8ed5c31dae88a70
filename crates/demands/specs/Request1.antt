-- Change request 1, in the customer's words: "Give two room blocks; the answer is a list by strip, left to right: for each strip whose pixels or whose rows in
-- any plane differ, the strip number, how many pixels differ and which planes differ. Only decoded content counts, so the same picture under another
-- code is no difference. Two planes are compared up to the larger N, an undeclared plane reading as zero. A strip stands in the list exactly if it differs,
-- and the counts are those of the pixels."
--
-- Said of what the contract of kg_compare promises (crate kildegrom): `compared_of`, `answer_of` and `list_after`. When it is refused: page Refusals.
use Rattle.std.specs.Prelude.{ℕ, ◌+◌, ◌-◌, ◌*◌, ◌/◌, ◌%◌, ◌^◌, ◌≤◌, ◌<◌, ◌≡◌, List, ◌↔◌, length, get_or, Ok}
use Rattle.number.specs.Number.{le16}
use Rattle.number.specs.Buffer.{over}
use Rattle.room.specs.Test.{strips, room_test, nothing}
use Rattle.room.specs.declared.Room.{Room}
use Rattle.load.specs.Load.{background}
use Rattle.play.specs.Bytes.{Lent, test_of, after_load}
use Rattle.compare.specs.Compare.{declared, Rooms, rooms, most, pixels_differing, Difference, list_bytes, compared_of, answer_of, list_after, number, value}
use Rattle.compare.specs.Listed.{Stands, Rising, PlaneDiffers, StripDiffers, SameContent}

-- both rooms pass the whole test
abbrev pub BothRight : (a b : List ℕ) → (ra rb : Room) → Type 0
BothRight a b ra rb = (room_test nothing a ≡ Ok ra) × (room_test nothing b ≡ Ok rb)

-- what a list of places says of two rooms
pub record Says (m : Rooms) (ds : List Difference) : Type 0 where
  -- "A strip stands in the list exactly if it differs": a pixel, or a row of a plane, of 1 to the larger N
  pub exactly : (k : ℕ) → k < strips m.ra → ((d : Difference) × Stands d ds × (d.strip ≡ k)) ↔ StripDiffers m k
  -- "left to right": strictly rising, and only strips that the rooms have
  pub rising : Rising ds
  pub strips-only : (d : Difference) → Stands d ds → d.strip < strips m.ra
  -- "how many pixels differ": of the strip's 8H pixels
  pub counts : (d : Difference) → Stands d ds → d.pixels ≡ pixels_differing m d.strip
  -- "which planes differ": bit p − 1 is set exactly if p is at most the larger N and a row of plane p differs
  pub planes : (d : Difference) → Stands d ds → (p : ℕ) → 1 ≤ p → (d.planes / 2 ^ (p - 1) % 2 ≡ 1) ↔ ((p ≤ most m) × PlaneDiffers m p d.strip)

-- and how place i of the lent list, afterwards l, has it in its 8 bytes
pub record PlaceReads (l : List ℕ) (i : ℕ) (d : Difference) : Type 0 where
  pub strip : le16 l (8 * i) ≡ d.strip
  pub pixels : le16 l (8 * i + 2) ≡ d.pixels
  pub planes : get_or l (8 * i + 4) 0 ≡ d.planes
  pub zeros : (get_or l (8 * i + 5) 0 ≡ 0) × (get_or l (8 * i + 6) 0 ≡ 0) × (get_or l (8 * i + 7) 0 ≡ 0)

pub record Request1 : Type 0 where
  -- an accepted call compared two rooms of one size, and left a list that says what differs, in its first places; the value is how many. Each place
  -- reads as its bytes, and every byte behind them stays
  pub listed : (a b list : List ℕ) → number (answer_of (compared_of a b (length list))) ≡ 0
      → (ra : Room) × (rb : Room) × BothRight a b ra rb × (ra.width ≡ rb.width) × (ra.height ≡ rb.height)
      × ((ds : List Difference) × Says (rooms a ra b rb) ds
      × (value (answer_of (compared_of a b (length list))) ≡ length ds)
      × (list_after (compared_of a b (length list)) list ≡ over (list_bytes ds) list)
      × ((i : ℕ) (none : Difference) → i < length ds → PlaceReads (list_after (compared_of a b (length list)) list) i (get_or ds i none)))
  -- "Only decoded content counts": what is compared is what kg_load leaves of each room, pixel by pixel and row by row
  pub pixel-loaded : (s : List ℕ) (b : Lent) (r : Room) → Ok r ≡ test_of s b → (x y : ℕ) → x < r.width → y < r.height
      → get_or (after_load s b).pixels (y * r.width + x) 0 ≡ background s r x y
  pub row_loaded : (s : List ℕ) (b : Lent) (r : Room) → Ok r ≡ test_of s b → (p k y : ℕ) → 1 ≤ p → p ≤ r.planes → k < strips r → y < r.height
      → get_or (after_load s b).masks (((p - 1) * r.height + y) * strips r + k) 0 ≡ declared s r p k y
  -- "an undeclared plane reading as zero"
  pub undeclared : (s : List ℕ) (r : Room) (p k y : ℕ) → r.planes < p → declared s r p k y ≡ 0
  -- so rooms of the same content, under other codes and tables and with other unused bytes, compare alike: the same answer, the same list
  pub content_only : (a b a' b' : List ℕ) (ra rb ra' rb' : Room) → BothRight a b ra rb → BothRight a' b' ra' rb'
      → SameContent a ra a' ra' → SameContent b rb b' rb' → (size : ℕ) → compared_of a b size ≡ compared_of a' b' size
  -- "the same picture under another code is no difference": the list is empty, and no byte of it changes
  pub alike : (a b : List ℕ) (ra rb : Room) → BothRight a b ra rb → SameContent a ra b rb → (list : List ℕ)
      → let o = compared_of a b (length list) in (number (answer_of o) ≡ 0) × (value (answer_of o) ≡ 0) × (list_after o list ≡ list)
  -- a room against itself
  pub itself : (a : List ℕ) (ra : Room) → room_test nothing a ≡ Ok ra → (list : List ℕ)
      → let o = compared_of a a (length list) in (number (answer_of o) ≡ 0) × (value (answer_of o) ≡ 0) × (list_after o list ≡ list)
  -- A against B gives what B against A gives
  pub either_order : (a b : List ℕ) (ra rb : Room) → BothRight a b ra rb → (size : ℕ) → compared_of a b size ≡ compared_of b a size
