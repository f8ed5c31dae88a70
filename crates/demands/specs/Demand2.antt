-- Demand 2, in the customer's words: "Pixels, mask planes, object headers and limb states read are those of the SCUMM v5 rules in document
-- 01. Pictures and planes that we write are exactly the bytes of its writing rule, and read back as the rows given. An opaque actor pixel
-- inside the room is hidden exactly when the actor's own clip level names a plane of the room and that plane's bit is set there."
--
-- Said of what the contracts of the calls promise (crate kildegrom): `test_of` and `after_load` of kg_load, `header_call` and `header_after` of
-- kg_header, `start_number`, `start_bytes`, `tick_number`, `tick_bytes` and `drawn_of` of the costume's calls, `smap_outcome` and `plane_outcome`,
-- `answer_of` and `target_after` of the writers, `hidden_of` of kg_hidden, `stamp_number` and `stamp_frame` of kg_stamp, `number_in`, `cast_list` and
-- `cast_frame` of kg_cast (page Request7, which is part of this one). What kg_compare says of two rooms' pixels and planes: page Request1.
use Rattle.std.specs.Prelude.{ℕ, ◌+◌, ◌-◌, ◌*◌, ◌/◌, ◌%◌, ◌≤◌, ◌<◌, ◌≡◌, Bool, false, cond, List, ◌++◌, ◌↔◌, ℤ, pos, ◌+ℤ◌, length, get_or, drop, replicate, Some, None, Ok}
use Rattle.number.specs.Buffer.{over}
use Rattle.bits.specs.Bits.{bits_of}
use Rattle.strip.specs.Strip.{Strip, decode}
use Rattle.strip.specs.Strip as strip
use Rattle.strip.specs.Picture.{kind_of, source_of, picture}
use Rattle.strip.specs.declared.Kind.TheVariants.{Coded}
use Rattle.block.specs.Tag.{tag-CDHD}
use Rattle.block.specs.Tree.{need_tag}
use Rattle.table.specs.Body.{body_of, strip_at, rows_at}
use Rattle.room.specs.Picture.{plane_in}
use Rattle.room.specs.Test.{strips}
use Rattle.room.specs.declared.Room.{Room}
use Rattle.objects.specs.Object.{object_block, cdhd_at, place_number, header_call, header_after}
use Rattle.play.specs.Bytes.{Lent, test_of, after_load}
use Rattle.limbs.specs.Limb.{limb_at, draws, drawn_of}
use Rattle.limbs.specs.Limb as limb
use Rattle.limbs.specs.Tick.{stream, ticked_limb, tick_number, tick_bytes}
use Rattle.costume.specs.Record.{entry_of, begun_limb}
use Rattle.costume.specs.Start.{offset_at, defined, start_number, start_bytes}
use Rattle.actor.specs.Hidden.{hidden_of, number, value}
use Rattle.actor.specs.Stamp.{stamp_number, stamp_frame}
use Rattle.block_writer.specs.Block.{smap_block, plane_block}
use Rattle.block_writer.specs.Reads.{SmapReads, PlaneReads}
use Rattle.block_writer.specs.Call.{smap_outcome, plane_outcome, answer_of, target_after}
use Rattle.stored.specs.Layout.{session_size}
use Rattle.demands.specs.Behind.{Behind}
use Rattle.demands.specs.Request7.{Request7}
use Rattle.demands.specs.Written.{room_around, smap_written, plane_written, Loads}

-- every number of a list is a byte, as of every lent slice
abbrev pub Bytes : List ℕ → Type 0
Bytes l = (i : ℕ) → get_or l i 0 < 256

-- the body of strip k of a room's background
abbrev pub body_in : List ℕ → Room → ℕ → List ℕ
body_in room r k = body_of false (strips r) room r.smap r.smap_end k

-- the pixels of a body of h rows, in the order in which they are made: the first colour, then what the bits after it give
abbrev pub operations : Bool → (width h : ℕ) → List ℕ → Strip
operations second width h body = decode second width (8 * h) 1 (get_or body 1 0) 1 (bits_of (drop 2 body))

-- ---- what is read

pub record Reads : Type 0 where
  -- "Pixels": after an accepted load of sizes W × H, the byte at y × W + x is the pixel in row y, column x mod 8 of strip x / 8, which the rules read
  -- (`strip_at`), none of them refused
  pub pixels_read : (s : List ℕ) (b : Lent) (r : Room) → Ok r ≡ test_of s b → (x y : ℕ) → x < r.width → y < r.height
      → (clear : Bool) × (px : List ℕ) × (strip_at (strips r) r.height s r.smap r.smap_end (x / 8) ≡ picture clear px)
      × (get_or (after_load s b).pixels (y * r.width + x) 0 ≡ get_or px (8 * y + x % 8) 0)
  -- in a strip of the first or the second method that is what its operations give from the first colour on, each pixel where the code's order has
  -- it (raw strips: page Request5)
  pub coded_read : (s : List ℕ) (b : Lent) (r : Room) → Ok r ≡ test_of s b → (x y : ℕ) → x < r.width → y < r.height
      → (second vertical clear : Bool) (width : ℕ) → kind_of (get_or (body_in s r (x / 8)) 0 0) ≡ Coded second vertical clear width
      → (xs : List ℕ) × (operations second width r.height (body_in s r (x / 8)) ≡ strip.values xs)
      × (get_or (after_load s b).pixels (y * r.width + x) 0 ≡ get_or xs (source_of vertical r.height (8 * y + x % 8)) 0)
  -- "mask planes": the byte at ((k − 1) × H + y) × S + t is row y of strip t of ZP0k as the rules read it (`rows_at`), 0 where there is no ZP0k
  pub masks_read : (s : List ℕ) (b : Lent) (r : Room) → Ok r ≡ test_of s b
      → (k t y : ℕ) → 1 ≤ k → k ≤ r.planes → t < strips r → y < r.height
      → (plane_in s r.image r.image_end k ≡ None → get_or (after_load s b).masks (((k - 1) * r.height + y) * strips r + t) 0 ≡ 0)
      × ((from to : ℕ) → plane_in s r.image r.image_end k ≡ Some (from, to)
      → (rows : List ℕ) × (rows_at (strips r) r.height s from to t ≡ strip.values rows)
      × (get_or (after_load s b).masks (((k - 1) * r.height + y) * strips r + t) 0 ≡ get_or rows y 0))
  -- a load empties the session, and every other lent byte stays
  pub load-rest : (s : List ℕ) (b : Lent) (r : Room) → Ok r ≡ test_of s b
      → ((after_load s b).session ≡ over (replicate session_size 0) b.session)
      × (length (after_load s b).pixels ≡ length b.pixels) × (length (after_load s b).masks ≡ length b.masks)
      × ((i : ℕ) → r.width * r.height ≤ i → get_or (after_load s b).pixels i 0 ≡ get_or b.pixels i 0)
      × ((i : ℕ) → strips r * (r.planes * r.height) ≤ i → get_or (after_load s b).masks i 0 ≡ get_or b.masks i 0)
  -- "object headers": kg_header for object k. The record's fields are the numbers of CDHD in the k-th OBCD, the walk point signed (`cdhd_at`)
  pub header_read : (s out : List ℕ) (k : ℕ) → place_number (header_call s out k) ≡ 0
      → (from to cdhd end : ℕ) × (object_block s k ≡ Some (from, to)) × (need_tag tag-CDHD 13 s (from + 8) to ≡ Some (cdhd, end))
      × (cdhd_at (header_after s (header_call s out k) out) 0 ≡ cdhd_at s cdhd)
  -- "limb states": kg_start. Each of the 16 limbs is what its entry in the record makes of it, or as it was where the animation isn't defined
  pub limbs_started : (s l : List ℕ) (t count v chore direction : ℕ) → start_number s l t count v chore direction ≡ 0 → Bytes s → Bytes l
      → (i : ℕ) → i < 16 → limb_at (start_bytes s l t count v chore direction) i
      ≡ cond (defined s (offset_at s t chore direction)) (begun_limb (entry_of s (offset_at s t chore direction - 6) i) (limb_at l i)) (limb_at l i)
  -- kg_tick: each limb is the tick of what it was; a payload is no longer than a block can be
  pub limbs_ticked : (s l : List ℕ) (v : ℕ) → tick_number s l v ≡ 0 → Bytes l → length s ≤ 4294967296
      → (i : ℕ) → i < 16 → limb_at (tick_bytes s l v) i ≡ ticked_limb (stream s v) (limb_at l i)
  -- kg_limb_draws: whether limb i draws, and its picture
  pub limb-draws : (l : List ℕ) (i : ℕ) → limb.number (drawn_of l i) ≡ 0 → drawn_of l i ≡ draws (limb_at l i)

-- ---- what is written

pub record Writes : Type 0 where
  -- "exactly the bytes of its writing rule": an accepted kg_write_smap has left the block, and every byte behind it as it was
  pub picture-written : (w h : ℕ) (rows d : List ℕ) (len : ℕ) → Ok len ≡ answer_of (smap_outcome w h rows (length d))
      → (len ≡ length (smap_block (w / 8) h rows)) × (target_after (smap_outcome w h rows (length d)) d ≡ over (smap_block (w / 8) h rows) d)
  pub plane-written : (k w h : ℕ) (rows d : List ℕ) (len : ℕ) → Ok len ≡ answer_of (plane_outcome k w h rows (length d))
      → (len ≡ length (plane_block k (w / 8) h rows)) × (target_after (plane_outcome k w h rows (length d)) d ≡ over (plane_block k (w / 8) h rows) d)
  -- "and read back as the rows given": wherever in a room it stands, the written block passes the whole test of a block, and each of its strips, each
  -- pixel, each mask byte reads as given (`SmapReads`, `PlaneReads`)
  pub picture-reads_back : (w h : ℕ) (rows d : List ℕ) (len : ℕ) → Bytes rows → Ok len ≡ answer_of (smap_outcome w h rows (length d))
      → (before after : List ℕ) → SmapReads (w / 8) h rows (before ++ (smap_written w h rows d len ++ after)) (length before) (length before + len)
  pub plane-reads_back : (k w h : ℕ) (rows d : List ℕ) (len : ℕ) → Ok len ≡ answer_of (plane_outcome k w h rows (length d))
      → (before after : List ℕ) → PlaneReads k (w / 8) h rows (before ++ (plane_written k w h rows d len ++ after)) (length before) (length before + len)
  -- and through the calls: a room around a written background and n written planes, whatever its sizes and rows, is accepted by kg_load with the
  -- sizes given, and loads to exactly the rows given (`Loads`)
  pub room-reads_back : (w h n : ℕ) (rows : List ℕ) (planes : ℕ → List ℕ) (target : List ℕ) (targets : ℕ → List ℕ) (len : ℕ) (lens : ℕ → ℕ)
      → n ≤ 4 → Bytes rows
      → Ok len ≡ answer_of (smap_outcome w h rows (length target))
      → ((k : ℕ) → 1 ≤ k → k ≤ n → Ok (lens k) ≡ answer_of (plane_outcome k w h (planes k) (length (targets k))))
      → (b : Lent) → session_size ≤ length b.session → w * h ≤ length b.pixels → n * (w / 8) * h ≤ length b.masks
      → Loads w h n rows planes (room_around w h n (smap_written w h rows target len) (λ k. plane_written k w h (planes k) (targets k) (lens k))) b
  -- so every picture with its planes, of every size that is allowed, is what some room loads to
  pub every-picture : (w h n : ℕ) (rows : List ℕ) (planes : ℕ → List ℕ) → w % 8 ≡ 0 → 8 ≤ w → w ≤ 1024 → 1 ≤ h → h ≤ 200 → n ≤ 4
      → Bytes rows → w * h ≤ length rows → ((k : ℕ) → 1 ≤ k → k ≤ n → w / 8 * h ≤ length (planes k))
      → (s : List ℕ)
      × ((b : Lent) → session_size ≤ length b.session → w * h ≤ length b.pixels → n * (w / 8) * h ≤ length b.masks → Loads w h n rows planes s b)

-- ---- what is hidden

pub record Hides : Type 0 where
  -- kg_hidden: an accepted question has the value 1, "hidden", exactly when the clip level names a plane of the room and its bit is set there
  pub hidden_exactly : (masks : List ℕ) (w h n clip x y : ℕ) → number (hidden_of masks w h n clip x y) ≡ 0
      → (value (hidden_of masks w h n clip x y) ≡ 1) ↔ Behind masks w h n clip x y
  -- kg_stamp: the picture's pixel at a column and a row, which is opaque and stands at (p, q) of the frame
  pub stamped-exactly : (frame masks picture : List ℕ) (w h n width height clear : ℕ) (x y : ℤ) (clip : ℕ)
      → stamp_number (length frame) (length masks) (length picture) w h n width height ≡ 0
      → (column row p q : ℕ) → column < width → row < height → pos p ≡ x +ℤ pos column → pos q ≡ y +ℤ pos row → p < w → q < h
      → (get_or picture (row * width + column) 0 ≡ clear → ⊥)
      → (Behind masks w h n clip p q → get_or (stamp_frame frame masks picture w h n width height clear x y clip) (q * w + p) 0 ≡ get_or frame (q * w + p) 0)
      × ((Behind masks w h n clip p q → ⊥)
      → get_or (stamp_frame frame masks picture w h n width height clear x y clip) (q * w + p) 0 ≡ get_or picture (row * width + column) 0)

pub record Demand2 : Type 0 where
  pub reads : Reads
  pub writes : Writes
  pub hides : Hides
  -- and for a whole cast: its stamps are those of kg_stamp, one by one, back to front
  pub casts : Request7
