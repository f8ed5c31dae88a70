-- Change request 9, in the customer's words: "A ROOM may hold a TRNS block, whose first byte is the room's transparent index; without one it is 255. It
-- replaces 255 in document 01's painting rule. The stamp and the cast take the index as a byte from the caller. The room's record carries it, and demand 3
-- is over the painting with that index. Refusals: 2 for an empty TRNS payload."
--
-- Said of what the contracts of the calls promise (crate kildegrom): `test_of` of kg_load, `record_test` and `record_after` of kg_record, `stamp_number` and
-- `stamp_frame` of kg_stamp; and of `decoded`, the room that demand 3's painting is of. A load paints the background whatever its values: pages Demand2
-- (`pixels_read`) and Demand3 (`load`) ask for no index. When 2 is given: page Refusals, and `empty` here.
use Rattle.std.specs.Prelude.{ℕ, ◌+◌, ◌-◌, ◌*◌, ◌/◌, ◌%◌, ◌≤◌, ◌<◌, ◌≡◌, true, List, ◌⊎◌, ℤ, pos, ◌+ℤ◌, length, get_or, Some, None, Ok}
use Rattle.std.specs.Int.Bits.{bit_or}
use Rattle.block.specs.Tag.{tag-TRNS}
use Rattle.block.specs.Tree.{well_formed, find_tag}
use Rattle.room.specs.Test.{room_test, number_of}
use Rattle.room.specs.declared.Lent as room
use Rattle.room.specs.declared.Room.{Room}
use Rattle.objects.specs.Record.{record_test, record_after}
use Rattle.image.specs.Image.{image_height}
use Rattle.image.specs.Pixel.{image_strip, image_colour, clear_code, image_bits}
use Rattle.scene.specs.Painting.{covers, reaches, over_pixel, over_mask}
use Rattle.scene.specs.declared.Entry.{Entry}
use Rattle.layers.specs.Decoded.{decoded}
use Rattle.play.specs.Bytes.{Lent, test_of}
use Rattle.actor.specs.Stamp.{stamp_number, stamp_frame}

-- i is the room's transparent index: the first byte of the payload of the first TRNS directly in ROOM; 255 where there is none
abbrev pub Index : List ℕ → ℕ → Type 0
Index s i =
    ((b : ℕ) × (z : ℕ) × (find_tag tag-TRNS s 8 (length s) ≡ Some (b, z)) × (b + 8 < z) × (i ≡ get_or s (b + 8) 0))
    ⊎ ((find_tag tag-TRNS s 8 (length s) ≡ None) × (i ≡ 255))

-- document 01's painting rule, "An entry's pixel is transparent if its code is a transparent one and its value is 255", with i for 255. The pixel is that of
-- object o in state st, strip j, row q and column c
abbrev pub Transparent : List ℕ → Room → (i o st j q c : ℕ) → Type 0
Transparent s r i o st j q c = (clear_code (image_strip r.planes s o st j) ≡ true) × (image_colour r.planes s o st j q c ≡ i)

-- the strip has no transparent pixel, over the image's whole height
abbrev pub NoneTransparent : List ℕ → Room → (i o st j : ℕ) → Type 0
NoneTransparent s r i o st j = (q c : ℕ) → q < image_height s o → c < 8 → Transparent s r i o st j q c → ⊥

-- how an entry of the room s, whose sizes are r, is painted with the index i: the entry covers strip x / 8, or strip k, and reaches row y
pub record Paints (s : List ℕ) (r : Room) (i : ℕ) (e : Entry) : Type 0 where
  -- a transparent pixel leaves the one below, any other is written
  pub pixel : (x y below : ℕ) → covers (decoded s r) e (x / 8) ≡ true → reaches (decoded s r) e y ≡ true
      → let j = x / 8 - e.x / 8 in let q = y - e.y in
      (Transparent s r i e.object e.state j q (x % 8) → over_pixel (decoded s r) x y e below ≡ below)
      × ((Transparent s r i e.object e.state j q (x % 8) → ⊥)
      → over_pixel (decoded s r) x y e below ≡ image_colour r.planes s e.object e.state j q (x % 8))
  -- "A strip with no transparent pixel replaces the mask rows it covers", another joins its bits; plane p + 1 of document 01 is p here
  pub mask : (p k y below : ℕ) → covers (decoded s r) e k ≡ true → reaches (decoded s r) e y ≡ true
      → let j = k - e.x / 8 in let bits = image_bits r.planes s e.object e.state (p + 1) j (y - e.y) in
      (NoneTransparent s r i e.object e.state j → over_mask (decoded s r) p k y e below ≡ bits)
      × ((NoneTransparent s r i e.object e.state j → ⊥) → over_mask (decoded s r) p k y e below ≡ bit_or below bits)

pub record Request9 : Type 0 where
  -- a room has one index at most
  pub one_index : (s : List ℕ) (i i' : ℕ) → Index s i → Index s i' → i ≡ i'
  -- "whose first byte is the room's transparent index; without one it is 255": of every room that kg_load accepts
  pub index_read : (s : List ℕ) (b : Lent) (r : Room) → test_of s b ≡ Ok r → Index s r.clear
  -- "The room's record carries it": byte 8, after every kg_record that is accepted
  pub index_recorded : (s lent : List ℕ) → number_of (record_test s lent) ≡ 0 → Index s (get_or (record_after (record_test s lent) lent) 8 0)
  -- "It replaces 255 in document 01's painting rule", "demand 3 is over the painting with that index"
  pub paints : (s : List ℕ) (b : Lent) (r : Room) → test_of s b ≡ Ok r → (i : ℕ) → Index s i → (e : Entry) → Paints s r i e
  -- "The stamp … take the index as a byte from the caller": the picture's pixel at a column and a row, which stands at (p, q) of the frame, is not
  -- written where it has that index. What becomes of every other pixel: page Demand2, `stamped-exactly`, for the same index. A cast's stamps are these, with
  -- the cast's index: page Request7, `stamps`
  pub stamp_leaves : (frame masks picture : List ℕ) (w h n width height clear : ℕ) (x y : ℤ) (clip : ℕ)
      → stamp_number (length frame) (length masks) (length picture) w h n width height ≡ 0
      → (column row p q : ℕ) → column < width → row < height → pos p ≡ x +ℤ pos column → pos q ≡ y +ℤ pos row → p < w → q < h
      → get_or picture (row * width + column) 0 ≡ clear
      → get_or (stamp_frame frame masks picture w h n width height clear x y clip) (q * w + p) 0 ≡ get_or frame (q * w + p) 0
  -- "2 for an empty TRNS payload", whatever else is missing, too large, too short or wrong in a room that is not 1, and whatever is lent
  pub empty : (lent : room.Lent) (s : List ℕ) → well_formed s ≡ true → (b z : ℕ) → find_tag tag-TRNS s 8 (length s) ≡ Some (b, z) → z ≤ b + 8
      → number_of (room_test lent s) ≡ 2
