-- Document 01's table "Numbered refusals": each number, "given exactly when". A field says it of what a call's contract promises, and its conditions
-- name what stands before that number in document 01's order, so the order follows. The table's line stands above the fields of its number.
use Rattle.std.specs.Prelude.{ℕ, ◌+◌, ◌*◌, ◌/◌, ◌≤◌, ◌<◌, ◌≡◌, Bool, true, false, List, [], ◌↔◌, ◌⊎◌, eqb, length, get_or, Some, None, Ok, Err}
use Rattle.block.specs.Tag.{tag-SMAP}
use Rattle.block.specs.Tree.{well_formed, find_tag}
use Rattle.table.specs.Table.{bodiless, table_right}
use Rattle.table.specs.Table as table
use Rattle.table.specs.Body.{body_of}
use Rattle.table.specs.Test.{strip_test, block_test}
use Rattle.room.specs.Head.{needed_in, objects_right, trns_in, holds_index, sizes_right, room_of}
use Rattle.room.specs.Test.{strips, short, room_test, number_of, nothing, fixed_only, with_surfaces, with_flags}
use Rattle.room.specs.declared.Lent.{Lent}
use Rattle.room.specs.declared.Parts.{Parts}
use Rattle.room.specs.declared.Room.{Room}
use Rattle.objects.specs.Record.{record_test}
use Rattle.objects.specs.Object.{object_block, place_number, header_call}
use Rattle.objects.specs.Name.{name_number}
use Rattle.image.specs.Image.{image_width, image_height, state_block, drawable}
use Rattle.object_list.specs.List.{list_test}
use Rattle.scene.specs.declared.Call.{Call}
use Rattle.scene.specs.declared.Call.TheVariants.{Make, TakeBack}
use Rattle.scene.specs.declared.Entry.{Entry}
use Rattle.scene.specs.declared.Place.{Place}
use Rattle.scene.specs.declared.Step.{Step}
use Rattle.scene.specs.declared.Step.TheVariants.{Draw, Hide}
use Rattle.scene.specs.Painting as scene
use Rattle.scene.specs.Steps.{some, entry_of, allowed, most_steps}
use Rattle.scene.specs.Session.{Session, right_for, scene_of}
use Rattle.stored.specs.Bytes.{session_of}
use Rattle.layers.specs.Decoded.{decoded}
use Rattle.play.specs.Bytes as play
use Rattle.point.specs.Call.{pointed_at}
use Rattle.point.specs.Call as point
use Rattle.actor.specs.Sizes.{sizes_fit, picture_fits, mask_bytes}
use Rattle.actor.specs.Hidden.{hidden_of}
use Rattle.actor.specs.Hidden as actor
use Rattle.actor.specs.Stamp.{stamp_number}
use Rattle.cast.specs.declared.Actor.{Actor}
use Rattle.cast.specs.Call.{number_in}
use Rattle.limbs.specs.Limb.{places_right, limbs_right, drawn_of}
use Rattle.limbs.specs.Limb as limb
use Rattle.limbs.specs.Tick.{command_right, stream, tick_number}
use Rattle.costume.specs.Start as start
use Rattle.costume.specs.Start.{numbers_right, offset_at, offset_right, started_of}
use Rattle.block_writer.specs.Block.{smap_block, plane_block}
use Rattle.block_writer.specs.Call.{sizes_allowed, smap_outcome, plane_outcome, answer_of}
use Rattle.block_writer.specs.Call as writer
use Rattle.stored.specs.Layout.{session_size}
use Rattle.compare.specs.Compare as compare
use Rattle.demands.specs.RoomRefusals.{NotOneRoom, NeededMissing, ObjectLacks, IndexLacks, OutOfSizes, OutOfRange, OutOfPicture, TableBad, OtherSession}
use Rattle.demands.specs.RoomRefusals.{NotDrawable, NotAllowed}
use Rattle.demands.specs.CostumeRefusals.{NumbersWrong, CommandWrong, RecordWrong, SomePlaceWrong, SomeLimbWrong}
use Rattle.demands.specs.PictureRefusals.{Picture, UnknownCode, BytesRunOut, PassesEnd, StripFault, BlockFault, TableWrong, AtStrip}
use Rattle.demands.specs.PictureRefusals.{AllPass, picture_of}

-- ---- rooms: "Every call that takes room bytes tests the whole room as the load does." `room_test lent s` is that test of the bytes s by a call that
-- is lent buffers of the lengths `lent`

-- the bytes are blocks (1), and the needed ones are there (2): p says where
abbrev pub Blocks : List ℕ → Parts → Type 0
Blocks s p = (well_formed s ≡ true) × (needed_in s ≡ Some p) × (objects_right s ≡ true) × (holds_index (trns_in s) ≡ true)

-- what they say of W, H, N and the objects is inside the sizes
abbrev pub sizes_inside : Room → Bool
sizes_inside r = sizes_right r.width r.height r.planes r.objects

-- 1, 2 and 3 aren't given, and the room is r
abbrev pub Sized : List ℕ → Room → Type 0
Sized s r = (p : Parts) × Blocks s p × (room_of s p ≡ r) × (sizes_inside r ≡ true)

-- nor is 4, and P holds of the room
abbrev pub AtRoom : Lent → List ℕ → (Room → Type 0) → Type 0
AtRoom lent s P = (r : Room) × Sized s r × (short lent r ≡ false) × P r

-- the room passes its test, and P holds of it
abbrev pub Passing : Lent → List ℕ → (Room → Type 0) → Type 0
Passing lent s P = (r : Room) × (room_test lent s ≡ Ok r) × P r

-- ---- sessions: kg_draw_last, kg_draw_at, kg_hide, kg_take_back on the lent bytes b

-- the session's bytes, read for this room
abbrev pub session_in : List ℕ → Room → play.Lent → Session
session_in s r b = session_of (decoded s r) b.session

-- the room passes, the session is one that it gives, and P holds
abbrev pub AtSession : List ℕ → play.Lent → (Room → Session → Type 0) → Type 0
AtSession s b P = (r : Room) × (play.call_test s b ≡ Ok r) × (right_for (decoded s r) (session_in s r b) ≡ true) × P r (session_in s r b)

-- and the history has room for a step
abbrev pub AtStep : List ℕ → play.Lent → (Room → Session → Type 0) → Type 0
AtStep s b P = AtSession s b λ r ss. (length ss.history < most_steps) × P r ss

-- the place of a draw is allowed
abbrev pub place_allowed : List ℕ → Room → Session → (o st : ℕ) → Place → Bool
place_allowed s r ss o st p = allowed (decoded s r) (entry_of (scene_of (decoded s r) ss) o st p)

-- 9 to 12 aren't given to the draw, whose image's block stands in [b, z), and P holds
abbrev pub AtImage : List ℕ → play.Lent → (o st : ℕ) → Place → (Room → (b z : ℕ) → Type 0) → Type 0
AtImage s l o st p P =
    AtStep s l λ r ss.
    (drawable s o st ≡ true) × (place_allowed s r ss o st p ≡ true) × ((b : ℕ) × (z : ℕ) × (state_block s o st ≡ Some (b, z)) × P r b z)

-- the image of object o there, with its SMAP block in [smap, last): "An image has IMHD's width / 8 strips of IMHD's height."
abbrev pub image_of : List ℕ → Room → (o b z smap last : ℕ) → Picture
image_of s r o b z smap last =
    record {
      planes = r.planes;
      width = image_width s o / 8;
      height = image_height s o;
      start = b + 8;
      end = z;
      smap = smap;
      last = last;
    }

abbrev pub AtPicture : List ℕ → play.Lent → (o st : ℕ) → Place → (Picture → Type 0) → Type 0
AtPicture s l o st p P =
    AtImage s l o st p λ r b z. (smap : ℕ) × (last : ℕ) × (find_tag tag-SMAP s (b + 8) z ≡ Some (smap, last)) × P (image_of s r o b z smap last)

abbrev pub draw_number : List ℕ → play.Lent → (o st : ℕ) → Place → ℕ
draw_number s b o st p = play.number_of s b (Make (Draw o st p))

-- ---- kg_compare of the rooms a and b with a list of `size` bytes

abbrev pub compare_number : (a b : List ℕ) → (size : ℕ) → ℕ
compare_number a b size = compare.number (compare.answer_of (compare.compared_of a b size))

-- both rooms pass their tests, and P holds of them
abbrev pub AtBoth : (a b : List ℕ) → (Room → Room → Type 0) → Type 0
AtBoth a b P = (ra : Room) × (rb : Room) × (room_test nothing a ≡ Ok ra) × (room_test nothing b ≡ Ok rb) × P ra rb

-- how many strips differ
abbrev pub strips_differing : (a b : List ℕ) → (ra rb : Room) → ℕ
strips_differing a b ra rb = length (compare.differences (compare.rooms a ra b rb))

-- ---- kg_cast of a list of actor records; its number is `number_in`. With the lengths of the frame, the masks and the pixel buffer that are lent to it:

-- "3 and 4 for frame and planes": neither is given
abbrev pub FrameFits : (frame masks w h n : ℕ) → Type 0
FrameFits frame masks w h n = (sizes_fit w h n ≡ true) × (w * h ≤ frame) × (mask_bytes w h n ≤ masks)

-- where the picture of a record ends in the pixel buffer
abbrev pub picture_end : Actor → ℕ
picture_end a = a.start + a.width * a.height

-- "its size (3) before its buffer (4)": neither is given to a record
abbrev pub RecordFits : (pictures : ℕ) → Actor → Type 0
RecordFits pictures a = (OutOfPicture a.width a.height → ⊥) × (picture_end a ≤ pictures)

-- "the first bad record in the list as handed in", at place i: neither is given to those before it, and P holds of it. `none` is what `get_or` gives past
-- the end, where no place is
abbrev pub FirstBad : (pictures : ℕ) → List Actor → (Actor → Type 0) → Type 0
FirstBad pictures list P =
    (i : ℕ) × (i < length list) × ((j : ℕ) (none : Actor) → j < i → RecordFits pictures (get_or list j none)) × ((none : Actor) → P (get_or list i none))

-- ---- the table

pub record Refusals : Type 0 where
  -- 0, accepted: none of 1 to 8 holds of the room
  pub accepted : (lent : Lent) (s : List ℕ) (r : Room)
      → (room_test lent s ≡ Ok r) ↔ (Sized s r × (short lent r ≡ false) × AllPass s (picture_of r))
  -- and neither 9 to 13 of the call, nor 2 and 5 to 8 of a draw's image
  pub accepted_draw : (s : List ℕ) (l : play.Lent) (o st : ℕ) (p : Place) → (draw_number s l o st p ≡ 0) ↔ AtPicture s l o st p (λ image. AllPass s image)
  pub accepted_hide : (s : List ℕ) (b : play.Lent) (o : ℕ)
      → (play.number_of s b (Make (Hide o)) ≡ 0) ↔ AtStep s b (λ r ss. some (λ e. eqb e.object o) ss.shown ≡ true)
  pub accepted-take_back : (s : List ℕ) (b : play.Lent) → (play.number_of s b TakeBack ≡ 0) ↔ AtSession s b (λ r ss. ss.history ≡ [] → ⊥)
  pub accepted_compare : (a b : List ℕ) (size : ℕ) → (compare_number a b size ≡ 0)
      ↔ AtBoth a b (λ ra rb. (ra.width ≡ rb.width) × (ra.height ≡ rb.height) × (strips_differing a b ra rb ≤ size / 8))
  pub accepted_cast : (list : List Actor) (frame masks pictures : List ℕ) (w h n : ℕ) → (number_in list frame masks pictures w h n ≡ 0)
      ↔ ((length list ≤ 32) × FrameFits (length frame) (length masks) w h n
      × ((i : ℕ) (none : Actor) → i < length list → RecordFits (length pictures) (get_or list i none)))
  -- 1: "the slice isn't one ROOM block filling it, is over the size, a block size is below 8 or passes its parent, children don't fill a container, or
  -- a block stands at depth 7"
  pub one : (lent : Lent) (s : List ℕ) → (number_of (room_test lent s) ≡ 1) ↔ (well_formed s ≡ false)
  -- in these words
  pub not-one-room : (s : List ℕ) → (well_formed s ≡ false) ↔ NotOneRoom s
  -- 2: "a needed block is missing or shorter than its fixed fields"
  pub two : (lent : Lent) (s : List ℕ)
      → (number_of (room_test lent s) ≡ 2)
      ↔ ((well_formed s ≡ true) × ((needed_in s ≡ None) ⊎ (objects_right s ≡ false) ⊎ (holds_index (trns_in s) ≡ false)))
  pub needed_missing : (s : List ℕ) → (needed_in s ≡ None) ↔ NeededMissing s
  pub object_lacks : (s : List ℕ) → (objects_right s ≡ false) ↔ ObjectLacks s
  -- change request 9: "2 for an empty TRNS payload"
  pub index_lacks : (s : List ℕ) → (holds_index (trns_in s) ≡ false) ↔ IndexLacks s
  pub two_draw : (s : List ℕ) (l : play.Lent) (o st : ℕ) (p : Place)
      → (draw_number s l o st p ≡ 2)
      ↔ ((number_of (play.call_test s l) ≡ 2) ⊎ AtImage s l o st p (λ r b z. find_tag tag-SMAP s (b + 8) z ≡ None))
  -- 3: "W, H, N, the object count or a picture size is outside the sizes above"
  pub three : (lent : Lent) (s : List ℕ) → (number_of (room_test lent s) ≡ 3) ↔ ((p : Parts) × Blocks s p × (sizes_inside (room_of s p) ≡ false))
  pub out_of_sizes : (r : Room) → (sizes_inside r ≡ false) ↔ OutOfSizes r
  pub three_hidden : (masks : List ℕ) (w h n clip x y : ℕ) → (actor.number (hidden_of masks w h n clip x y) ≡ 3) ↔ (sizes_fit w h n ≡ false)
  pub three_stamp : (frame masks picture w h n width height : ℕ)
      → (stamp_number frame masks picture w h n width height ≡ 3) ↔ ((sizes_fit w h n ≡ false) ⊎ (picture_fits width height ≡ false))
  -- change request 7: "18 …, then 3 and 4 for frame and planes, then those of the first bad record in the list as handed in, its size (3) before its buffer
  -- (4). An empty list still has the frame's 3 and 4", and no others
  pub three_cast : (list : List Actor) (frame masks pictures : List ℕ) (w h n : ℕ) → (number_in list frame masks pictures w h n ≡ 3)
      ↔ ((length list ≤ 32) × ((sizes_fit w h n ≡ false)
      ⊎ (FrameFits (length frame) (length masks) w h n × FirstBad (length pictures) list (λ a. OutOfPicture a.width a.height))))
  pub three-smap : (w h : ℕ) (rows : List ℕ) (size : ℕ) → (writer.number (answer_of (smap_outcome w h rows size)) ≡ 3) ↔ (sizes_allowed w h ≡ false)
  pub three-plane : (k w h : ℕ) (rows : List ℕ) (size : ℕ)
      → (writer.number (answer_of (plane_outcome k w h rows size)) ≡ 3) ↔ ((sizes_allowed w h ≡ false) ⊎ (k < 1) ⊎ (4 < k))
  pub sizes-fit : (w h n : ℕ) → (sizes_fit w h n ≡ false) ↔ (OutOfRange w h ⊎ (4 < n))
  pub picture-fits : (width height : ℕ) → (picture_fits width height ≡ false) ↔ OutOfPicture width height
  pub sizes-allowed : (w h : ℕ) → (sizes_allowed w h ≡ false) ↔ OutOfRange w h
  -- 4: "a lent buffer is shorter than the call needs"
  pub four : (lent : Lent) (s : List ℕ) → (number_of (room_test lent s) ≡ 4) ↔ ((r : Room) × Sized s r × (short lent r ≡ true))
  -- what a call needs: a record or header of 16 bytes; a session of its fixed size, with pixels W × H and masks N × S × H, or with a flag byte per object
  pub short_fixed : (size n : ℕ) (r : Room) → (short (fixed_only size n) r ≡ true) ↔ (n < size)
  pub short-surfaces : (size n pixels masks : ℕ) (r : Room)
      → (short (with_surfaces size n pixels masks) r ≡ true)
      ↔ ((n < size) ⊎ (pixels < r.width * r.height) ⊎ (masks < strips r * (r.planes * r.height)))
  pub short-flags : (size n flags : ℕ) (r : Room) → (short (with_flags size n flags) r ≡ true) ↔ ((n < size) ⊎ (flags < r.objects))
  -- kg_list: a record of 16 bytes, and rows of 32 for each object
  pub short_rows : (n rows : ℕ) (r : Room) → (short (with_flags 16 n (rows / 32)) r ≡ true) ↔ ((n < 16) ⊎ (rows < 32 * r.objects))
  pub four_hidden : (masks : List ℕ) (w h n clip x y : ℕ)
      → (actor.number (hidden_of masks w h n clip x y) ≡ 4) ↔ ((sizes_fit w h n ≡ true) × (length masks < mask_bytes w h n))
  pub four_stamp : (frame masks picture w h n width height : ℕ)
      → (stamp_number frame masks picture w h n width height ≡ 4)
      ↔ ((sizes_fit w h n ≡ true) × (picture_fits width height ≡ true)
      × ((frame < w * h) ⊎ (masks < mask_bytes w h n) ⊎ (picture < width * height)))
  -- change request 7: the same for 4; the first bad record's size is right, and its picture passes the buffer's end
  pub four_cast : (list : List Actor) (frame masks pictures : List ℕ) (w h n : ℕ) → (number_in list frame masks pictures w h n ≡ 4)
      ↔ ((length list ≤ 32) × (((sizes_fit w h n ≡ true) × ((length frame < w * h) ⊎ (length masks < mask_bytes w h n)))
      ⊎ (FrameFits (length frame) (length masks) w h n
      × FirstBad (length pictures) list (λ a. (OutOfPicture a.width a.height → ⊥) × (length pictures < picture_end a)))))
  pub four-start : (s l : List ℕ) (t count v chore direction : ℕ) → (start.number (started_of s l t count v chore direction) ≡ 4) ↔ (length l < 256)
  pub four_tick : (s l : List ℕ) (v : ℕ) → (tick_number s l v ≡ 4) ↔ (length l < 256)
  pub four-draws : (l : List ℕ) (i : ℕ) → (limb.number (drawn_of l i) ≡ 4) ↔ (length l < 256)
  pub four-smap : (w h : ℕ) (rows : List ℕ) (size : ℕ)
      → (writer.number (answer_of (smap_outcome w h rows size)) ≡ 4)
      ↔ ((sizes_allowed w h ≡ true) × ((length rows < h * (8 * (w / 8))) ⊎ (size < length (smap_block (w / 8) h rows))))
  pub four-plane : (k w h : ℕ) (rows : List ℕ) (size : ℕ)
      → (writer.number (answer_of (plane_outcome k w h rows size)) ≡ 4)
      ↔ ((sizes_allowed w h ≡ true) × (1 ≤ k) × (k ≤ 4) × ((length rows < h * (w / 8)) ⊎ (size < length (plane_block k (w / 8) h rows))))
  -- "then 4 when the lent list has fewer places than strips that differ": a place has 8 bytes
  pub four_compare : (a b : List ℕ) (size : ℕ) → (compare_number a b size ≡ 4)
      ↔ AtBoth a b (λ ra rb. (ra.width ≡ rb.width) × (ra.height ≡ rb.height) × (size / 8 < strips_differing a b ra rb))
  -- 5: "a strip table doesn't fit its block, or an offset is wrong"
  pub five : (lent : Lent) (s : List ℕ) → (number_of (room_test lent s) ≡ 5) ↔ AtRoom lent s (λ r. TableWrong s (picture_of r))
  pub table_bad : (mask : Bool) (n : ℕ) (s : List ℕ) (b z : ℕ) → (table_right mask n s b z ≡ false) ↔ TableBad mask n s b z
  pub five_draw : (s : List ℕ) (l : play.Lent) (o st : ℕ) (p : Place)
      → (draw_number s l o st p ≡ 5) ↔ ((number_of (play.call_test s l) ≡ 5) ⊎ AtPicture s l o st p (λ image. TableWrong s image))
  -- 6: "unknown strip code"
  pub six : (lent : Lent) (s : List ℕ) → (number_of (room_test lent s) ≡ 6) ↔ AtRoom lent s (λ r. AtStrip s (picture_of r) UnknownCode)
  pub six_draw : (s : List ℕ) (l : play.Lent) (o st : ℕ) (p : Place)
      → (draw_number s l o st p ≡ 6) ↔ ((number_of (play.call_test s l) ≡ 6) ⊎ AtPicture s l o st p (λ image. AtStrip s image UnknownCode))
  -- 7: "strip bytes run out"
  pub seven : (lent : Lent) (s : List ℕ) → (number_of (room_test lent s) ≡ 7) ↔ AtRoom lent s (λ r. AtStrip s (picture_of r) BytesRunOut)
  pub seven_draw : (s : List ℕ) (l : play.Lent) (o st : ℕ) (p : Place)
      → (draw_number s l o st p ≡ 7) ↔ ((number_of (play.call_test s l) ≡ 7) ⊎ AtPicture s l o st p (λ image. AtStrip s image BytesRunOut))
  -- 8: "an operation passes the end of the strip"
  pub eight : (lent : Lent) (s : List ℕ) → (number_of (room_test lent s) ≡ 8) ↔ AtRoom lent s (λ r. AtStrip s (picture_of r) PassesEnd)
  pub eight_draw : (s : List ℕ) (l : play.Lent) (o st : ℕ) (p : Place)
      → (draw_number s l o st p ≡ 8) ↔ ((number_of (play.call_test s l) ≡ 8) ⊎ AtPicture s l o st p (λ image. AtStrip s image PassesEnd))
  -- the strips and blocks before that pass: which strip or block doesn't, and with what number
  pub strip-refused : (mask : Bool) (n h : ℕ) (s : List ℕ) (b z k r : ℕ)
      → (strip_test mask n h s b z k ≡ Err r) ↔ ((bodiless mask (table.offset_at mask s b k) ≡ false) × StripFault mask h (body_of mask n s b z k) r)
  pub block_refused : (mask : Bool) (n h : ℕ) (s : List ℕ) (b z r : ℕ) → (block_test mask n h s b z ≡ Err r) ↔ BlockFault mask n h s b z r
  -- 9: "the session isn't one that this room gives"
  pub nine : (s : List ℕ) (b : play.Lent) (c : Call)
      → (play.number_of s b c ≡ 9) ↔ ((r : Room) × (play.call_test s b ≡ Ok r) × (right_for (decoded s r) (session_in s r b) ≡ false))
  pub other_session : (room : scene.Room) (ss : Session) → (right_for room ss ≡ false) ↔ OtherSession room ss
  pub nine_point : (s session flags : List ℕ) (x y : ℕ)
      → (point.number (pointed_at s session flags x y) ≡ 9)
      ↔ Passing (with_flags session_size (length session) (length flags)) s (λ r. right_for (decoded s r) (session_of (decoded s r) session) ≡ false)
  -- 10: "the history holds 64 steps"
  pub ten : (s : List ℕ) (b : play.Lent) (st : Step) → (play.number_of s b (Make st) ≡ 10) ↔ AtSession s b (λ r ss. most_steps ≤ length ss.history)
  -- 11: "no such object, image state or shown entry"
  pub eleven_draw : (s : List ℕ) (b : play.Lent) (o st : ℕ) (p : Place)
      → (draw_number s b o st p ≡ 11) ↔ AtStep s b (λ r ss. drawable s o st ≡ false)
  pub not-drawable : (s : List ℕ) (o st : ℕ) → (drawable s o st ≡ false) ↔ NotDrawable s o st
  pub eleven_hide : (s : List ℕ) (b : play.Lent) (o : ℕ)
      → (play.number_of s b (Make (Hide o)) ≡ 11) ↔ AtStep s b (λ r ss. some (λ e. eqb e.object o) ss.shown ≡ false)
  pub eleven_header : (s lent : List ℕ) (k : ℕ)
      → (place_number (header_call s lent k) ≡ 11) ↔ Passing (fixed_only 16 (length lent)) s (λ r. object_block s k ≡ None)
  pub eleven_name : (s : List ℕ) (k : ℕ) → (name_number s k ≡ 11) ↔ Passing nothing s (λ r. object_block s k ≡ None)
  -- 12: "the place isn't allowed"
  pub twelve : (s : List ℕ) (b : play.Lent) (o st : ℕ) (p : Place)
      → (draw_number s b o st p ≡ 12) ↔ AtStep s b (λ r ss. (drawable s o st ≡ true) × (place_allowed s r ss o st p ≡ false))
  pub not-allowed : (room : scene.Room) (e : Entry) → (allowed room e ≡ false) ↔ NotAllowed room e
  -- 13: "nothing to take back"
  pub thirteen : (s : List ℕ) (b : play.Lent) → (play.number_of s b TakeBack ≡ 13) ↔ AtSession s b (λ r ss. ss.history ≡ [])
  -- 14: "the point is outside the room"
  pub fourteen : (s session flags : List ℕ) (x y : ℕ)
      → (point.number (pointed_at s session flags x y) ≡ 14)
      ↔ Passing (with_flags session_size (length session) (length flags)) s
      (λ r. (right_for (decoded s r) (session_of (decoded s r) session) ≡ true) × ((r.width ≤ x) ⊎ (r.height ≤ y)))
  pub fourteen_hidden : (masks : List ℕ) (w h n clip x y : ℕ)
      → (actor.number (hidden_of masks w h n clip x y) ≡ 14)
      ↔ ((sizes_fit w h n ≡ true) × (mask_bytes w h n ≤ length masks) × ((w ≤ x) ⊎ (h ≤ y)))
  -- 15: "an animation number, record, window or limb state is wrong"
  pub fifteen_start : (s l : List ℕ) (t count v chore direction : ℕ)
      → (start.number (started_of s l t count v chore direction) ≡ 15)
      ↔ ((256 ≤ length l)
      × ((numbers_right s t count chore direction ≡ false) ⊎ (command_right s v ≡ false) ⊎ (limbs_right (length (stream s v)) l ≡ false)
      ⊎ (offset_right s (offset_at s t chore direction) (length (stream s v)) ≡ false)))
  pub fifteen_tick : (s l : List ℕ) (v : ℕ)
      → (tick_number s l v ≡ 15) ↔ ((256 ≤ length l) × ((command_right s v ≡ false) ⊎ (limbs_right (length (stream s v)) l ≡ false)))
  -- kg_limb_draws: no stream is lent to it, so the windows' ends aren't tested
  pub fifteen_draws : (l : List ℕ) (i : ℕ) → (limb.number (drawn_of l i) ≡ 15) ↔ ((256 ≤ length l) × ((15 < i) ⊎ (places_right l ≡ false)))
  pub numbers_wrong : (s : List ℕ) (t count chore direction : ℕ) → (numbers_right s t count chore direction ≡ false) ↔ NumbersWrong s t count chore direction
  pub command_wrong : (s : List ℕ) (v : ℕ) → (command_right s v ≡ false) ↔ CommandWrong s v
  pub place_wrong : (l : List ℕ) → (places_right l ≡ false) ↔ SomePlaceWrong l
  pub limb_wrong : (n : ℕ) (l : List ℕ) → (limbs_right n l ≡ false) ↔ SomeLimbWrong n l
  pub record_wrong : (s : List ℕ) (o n : ℕ) → (offset_right s o n ≡ false) ↔ RecordWrong s o n
  -- 16, change request 1: "when W or H differs"
  pub sixteen : (a b : List ℕ) (size : ℕ) → (compare_number a b size ≡ 16)
      ↔ AtBoth a b (λ ra rb. (ra.width ≡ rb.width → ⊥) ⊎ (ra.height ≡ rb.height → ⊥))
  -- 18, change request 7: "for more than 32 records"
  pub eighteen : (list : List Actor) (frame masks pictures : List ℕ) (w h n : ℕ) → (number_in list frame masks pictures w h n ≡ 18) ↔ (32 < length list)
  -- "Every call that takes room bytes tests the whole room as the load does": the load's test, the record's and the listing's, which give their numbers,
  -- and that of a draw, a hide or a take-back
  pub test_of-load : (s : List ℕ) (b : play.Lent)
      → play.test_of s b ≡ room_test (with_surfaces session_size (length b.session) (length b.pixels) (length b.masks)) s
  pub test_of_record : (s lent : List ℕ) → record_test s lent ≡ room_test (fixed_only 16 (length lent)) s
  pub test_of-list : (s lent rows : List ℕ) → list_test s lent rows ≡ room_test (with_flags 16 (length lent) (length rows / 32)) s
  pub test_of-call : (s : List ℕ) (b : play.Lent) → play.call_test s b ≡ play.test_of s b
  -- "Order: 1, 2, 3, 4 for the room", then the pictures, and only then 9 to 14 and an image: a call gives each of the room's numbers where its test does.
  -- A draw gives 2 and 5 to 8 for its image too, as above
  pub room_of-call : (s : List ℕ) (b : play.Lent) (c : Call) (n : ℕ) → 1 ≤ n → number_of (play.call_test s b) ≡ n → play.number_of s b c ≡ n
  pub room_of_draw : (s : List ℕ) (b : play.Lent) (o st : ℕ) (p : Place) (n : ℕ) → (n ≡ 1) ⊎ (n ≡ 3) ⊎ (n ≡ 4)
      → (draw_number s b o st p ≡ n) ↔ (number_of (play.call_test s b) ≡ n)
  pub room_of_hide : (s : List ℕ) (b : play.Lent) (o n : ℕ) → 1 ≤ n → n ≤ 8 → (play.number_of s b (Make (Hide o)) ≡ n) ↔ (number_of (play.call_test s b) ≡ n)
  pub room_of-take_back : (s : List ℕ) (b : play.Lent) (n : ℕ) → 1 ≤ n → n ≤ 8 → (play.number_of s b TakeBack ≡ n) ↔ (number_of (play.call_test s b) ≡ n)
  pub room_of_point : (s session flags : List ℕ) (x y n : ℕ) → 1 ≤ n → n ≤ 8
      → (point.number (pointed_at s session flags x y) ≡ n) ↔ (number_of (room_test (with_flags session_size (length session) (length flags)) s) ≡ n)
  pub room_of-header : (s lent : List ℕ) (k n : ℕ) → 1 ≤ n → n ≤ 8
      → (place_number (header_call s lent k) ≡ n) ↔ (number_of (room_test (fixed_only 16 (length lent)) s) ≡ n)
  pub room_of-name : (s : List ℕ) (k n : ℕ) → 1 ≤ n → n ≤ 8 → (name_number s k ≡ n) ↔ (number_of (room_test nothing s) ≡ n)
  -- change request 1: "room A's first, then room B's"
  pub rooms_of_compare : (a b : List ℕ) (size n : ℕ) → 1 ≤ n → n ≤ 8 → (n ≡ 4 → ⊥)
      → (compare_number a b size ≡ n)
      ↔ ((number_of (room_test nothing a) ≡ n) ⊎ ((number_of (room_test nothing a) ≡ 0) × (number_of (room_test nothing b) ≡ n)))
  -- with nothing lent a room's test gives no 4
  pub no-four : (s : List ℕ) → number_of (room_test nothing s) ≡ 4 → ⊥
