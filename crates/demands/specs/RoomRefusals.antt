-- Refusals 1, 2, 3, 5 and 9, and what 11 and 12 say of a draw, in document 01's words ("Numbered refusals", "Sizes", "Blocks", "Sessions"): what it is
-- that the tests which the page Refusals names find wrong.
use Rattle.std.specs.Prelude.{ℕ, suc, ◌+◌, ◌-◌, ◌*◌, ◌%◌, ◌≤◌, ◌<◌, ◌≡◌, Bool, true, false, List, ◌∷◌, ◌++◌, ◌⊎◌, length, Some, None}
use Rattle.number.specs.Number.{be32}
use Rattle.block.specs.Tag.{container, tag-ROOM, tag-RMHD, tag-RMIM, tag-RMIH, tag-IM00, tag-SMAP, tag-OBCD, tag-CDHD, tag-OBIM, tag-IMHD, tag-TRNS}
use Rattle.block.specs.Tree.{block_end, find_tag, nth_tag, need_tag}
use Rattle.table.specs.Table.{table_end, offset_at, bodiless}
use Rattle.room.specs.declared.Room.{Room}
use Rattle.image.specs.Image.{object_count, image_block, image_count, state_block}
use Rattle.scene.specs.Painting as scene
use Rattle.scene.specs.declared.Entry.{Entry}
use Rattle.scene.specs.declared.Step.{Step}
use Rattle.scene.specs.Steps.{refusal, replay}
use Rattle.scene.specs.Session.{Session}

-- ---- 1

-- a block stands at a in a list that ends at e: its header fits, its size isn't below 8, and it doesn't pass e
abbrev pub Stands : List ℕ → (a e : ℕ) → Type 0
Stands s a e = block_end s a e ≡ 0 → ⊥

-- a list of blocks at depth d goes on at a and ends at e. "ROOM is depth 1": its payload is a list at depth 2. The next block stands where one ends,
-- and the payload of a container is a list one deeper
pub data Goes (s : List ℕ) : (d a e : ℕ) → Type 0 where
  first : Goes s 2 8 (length s)
  next : {d a e : ℕ} → Goes s d a e → Stands s a e → Goes s d (block_end s a e) e
  into : {d a e : ℕ} → Goes s d a e → Stands s a e → container s a ≡ true → Goes s (suc d) (a + 8) (block_end s a e)

-- "is over the size"; "isn't one ROOM block filling it"; a list that goes on where no block stands, because "a block size is below 8 or passes its
-- parent" or "children don't fill a container"; "a block stands at depth 7"
abbrev pub NotOneRoom : List ℕ → Type 0
NotOneRoom s =
    (1048576 < length s)
    ⊎ (length s < 8)
    ⊎ (be32 s 0 ≡ tag-ROOM → ⊥)
    ⊎ (block_end s 0 (length s) ≡ length s → ⊥)
    ⊎ ((d : ℕ) × (a : ℕ) × (e : ℕ) × Goes s d a e × (block_end s a e ≡ 0) × (a ≡ e → ⊥))
    ⊎ ((a : ℕ) × (e : ℕ) × Goes s 7 a e × Stands s a e)

-- ---- 2

-- in RMIM's payload [im, e): RMIH with 2 bytes, IM00, and SMAP in it
abbrev pub BackgroundMissing : List ℕ → (im e : ℕ) → Type 0
BackgroundMissing s im e =
    (need_tag tag-RMIH 2 s im e ≡ None)
    ⊎ (need_tag tag-IM00 0 s im e ≡ None)
    ⊎ ((b : ℕ) × (z : ℕ) × (need_tag tag-IM00 0 s im e ≡ Some (b, z)) × (find_tag tag-SMAP s b z ≡ None))

-- directly in ROOM: RMHD with 6 bytes, and RMIM with those
abbrev pub NeededMissing : List ℕ → Type 0
NeededMissing s =
    (need_tag tag-RMHD 6 s 8 (length s) ≡ None)
    ⊎ (need_tag tag-RMIM 0 s 8 (length s) ≡ None)
    ⊎ ((im : ℕ) × (e : ℕ) × (need_tag tag-RMIM 0 s 8 (length s) ≡ Some (im, e)) × BackgroundMissing s im e)

-- the block of number k with the tag t has none with the tag c in it, of n bytes or more
abbrev pub Lacks : (t c n : ℕ) → List ℕ → ℕ → Type 0
Lacks t c n s k = (b : ℕ) × (z : ℕ) × (nth_tag t s 8 (length s) k ≡ Some (b, z)) × (need_tag c n s (b + 8) z ≡ None)

-- "Each OBCD needs CDHD (13 bytes) and each OBIM needs IMHD (first 16 bytes)"
abbrev pub ObjectLacks : List ℕ → Type 0
ObjectLacks s = ((k : ℕ) × Lacks tag-OBCD tag-CDHD 13 s k) ⊎ ((k : ℕ) × Lacks tag-OBIM tag-IMHD 16 s k)

-- change request 9: the first TRNS directly in ROOM has an empty payload
abbrev pub IndexLacks : List ℕ → Type 0
IndexLacks s = (b : ℕ) × (z : ℕ) × (find_tag tag-TRNS s 8 (length s) ≡ Some (b, z)) × (z ≤ b + 8)

-- ---- 3: "Width W a multiple of 8, 8 to 1,024 … Height H 1 to 200. Planes N 0 to 4. Objects (OBCD blocks) 0 to 128"
abbrev pub OutOfSizes : Room → Type 0
OutOfSizes r =
    (r.width % 8 ≡ 0 → ⊥) ⊎ (r.width < 8) ⊎ (1024 < r.width) ⊎ (r.height < 1) ⊎ (200 < r.height) ⊎ (4 < r.planes) ⊎ (128 < r.objects)

-- the same of the sizes that other calls are given: w, h, and n planes; "Actor picture 1 to 128 wide, 1 to 200 high"
abbrev pub OutOfRange : (w h : ℕ) → Type 0
OutOfRange w h = (w % 8 ≡ 0 → ⊥) ⊎ (w < 8) ⊎ (1024 < w) ⊎ (h < 1) ⊎ (200 < h)

abbrev pub OutOfPicture : (width height : ℕ) → Type 0
OutOfPicture width height = (width < 1) ⊎ (128 < width) ⊎ (height < 1) ⊎ (200 < height)

-- ---- 5, of a block in [b, z) with n strips: "a strip table doesn't fit its block, or an offset is wrong". An offset "is at least 8 + 4S, below the
-- block size, and above the one before it"; of a plane 8 + 2S, and an offset 0 isn't looked at
abbrev pub OffsetWrong : Bool → (n : ℕ) → List ℕ → (b z k : ℕ) → Type 0
OffsetWrong mask n s b z k =
    (offset_at mask s b k < table_end mask n)
    ⊎ (z - b ≤ offset_at mask s b k)
    ⊎ ((j : ℕ) × (j < k) × (bodiless mask (offset_at mask s b j) ≡ false) × (offset_at mask s b k ≤ offset_at mask s b j))

abbrev pub TableBad : Bool → (n : ℕ) → List ℕ → (b z : ℕ) → Type 0
TableBad mask n s b z =
    (z - b < table_end mask n) ⊎ ((k : ℕ) × (k < n) × (bodiless mask (offset_at mask s b k) ≡ false) × OffsetWrong mask n s b z k)

-- ---- 9: "A session is right for a room exactly if its history replays without refusal to its list." Histories stand newest first; they are
-- replayed from the session's base, which is what a load leaves
abbrev pub OtherSession : scene.Room → Session → Type 0
OtherSession room ss =
    ((later : List Step) × (st : Step) × (earlier : List Step) × (ss.history ≡ later ++ (st ∷ earlier))
    × (refusal room (length earlier) (replay room ss.base earlier) st ≡ 0 → ⊥))
    ⊎ (ss.shown ≡ (replay room ss.base ss.history).shown → ⊥)

-- ---- 11, of a draw of object o in state st: no such object, or no image; the state isn't 1 to 9 or is above numImages; its block isn't present
abbrev pub NotDrawable : List ℕ → (o st : ℕ) → Type 0
NotDrawable s o st =
    ((o < 1) ⊎ (object_count s < o))
    ⊎ (image_block s o ≡ None)
    ⊎ ((st < 1) ⊎ (9 < st) ⊎ (image_count s o < st))
    ⊎ (state_block s o st ≡ None)

-- ---- 12, of the entry that a draw would add: "x or image width not a multiple of 8, a zero size, or a box not wholly in the room"
abbrev pub NotAllowed : scene.Room → Entry → Type 0
NotAllowed room e =
    (e.x % 8 ≡ 0 → ⊥)
    ⊎ (room.width e.object % 8 ≡ 0 → ⊥)
    ⊎ (room.width e.object ≤ 0)
    ⊎ (room.tall e.object ≤ 0)
    ⊎ (8 * room.strips < e.x + room.width e.object)
    ⊎ (room.height < e.y + room.tall e.object)
