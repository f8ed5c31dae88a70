-- What a room must hold: refusals 1 to 3 in that order (document 01, "Sizes", "Numbered refusals", "Blocks").
use Rattle.std.specs.Prelude.{ℕ, ◌+◌, ◌%◌, ◌≤◌, ◌≡◌, List, Bool, true, ◌&&◌, cond, length, get_or, leb, ltb, eqb, Option, Some, None, Result, Ok, Err}
use Rattle.number.specs.Number.{le16}
use Rattle.block.specs.Tag.{tag-RMHD, tag-RMIM, tag-RMIH, tag-IM00, tag-SMAP, tag-OBCD, tag-CDHD, tag-OBIM, tag-IMHD, tag-TRNS}
use Rattle.block.specs.Tree.{well_formed, need_tag, find_tag, count_tag, each_has}
use Rattle.room.specs.declared.Parts.{Parts}
use Rattle.room.specs.declared.Room.{Room}

-- on with the place of a block, where it was found
abbrev pub when_found : Option (ℕ × ℕ) → (ℕ → ℕ → Option Parts) → Option Parts
when_found (Some (a, z)) next = next a z
when_found None next = None

-- a header's payload, and that of the block beside it, where both were found
abbrev pub both_found : (header body : Option (ℕ × ℕ)) → Option (ℕ × ℕ × ℕ)
both_found (Some (hd, hd-end)) (Some (a, z)) = Some (hd, a, z)
both_found (Some (hd, hd-end)) None = None
both_found None body = None

-- in the list [a, e): the first block with the tag t, of n bytes or more, and the first with the tag u
unfoldable pub headed_in : (t n u : ℕ) → List ℕ → (a e : ℕ) → Option (ℕ × ℕ × ℕ)
headed_in t n u s a e = both_found (need_tag t n s a e) (need_tag u 0 s a e)

-- on with a header and the block beside it
abbrev pub with_header : Option (ℕ × ℕ × ℕ) → (ℕ → ℕ → ℕ → Option Parts) → Option Parts
with_header (Some (hd, a, z)) next = next hd a z
with_header None next = None

-- in RMIM's payload [im, e): RMIH with its u16, and IM00 with SMAP; hd is RMHD's payload
unfoldable pub background_in : List ℕ → (hd im e : ℕ) → Option Parts
background_in s hd im e =
    with_header (headed_in tag-RMIH 2 tag-IM00 s im e) λ ih bg bg-end.
    when_found (find_tag tag-SMAP s bg bg-end) λ sm sm-end.
    Some (record { header = hd; image_header = ih; image = bg; image_end = bg-end; smap = sm; smap_end = sm-end })

-- the room's needed blocks: RMHD with its three u16, and RMIM with the background
unfoldable pub needed_in : List ℕ → Option Parts
needed_in s = with_header (headed_in tag-RMHD 6 tag-RMIM s 8 (length s)) λ hd im im-end. background_in s hd im im-end

-- each OBCD has CDHD (13 bytes), and each OBIM has IMHD (first 16 bytes)
unfoldable pub objects_right : List ℕ → Bool
objects_right s = each_has tag-OBCD tag-CDHD 13 s 8 (length s) && each_has tag-OBIM tag-IMHD 16 s 8 (length s)

-- the first TRNS directly under ROOM
unfoldable pub trns_in : List ℕ → Option (ℕ × ℕ)
trns_in s = find_tag tag-TRNS s 8 (length s)

-- change request 9: "2 for an empty TRNS payload"
abbrev pub holds_index : Option (ℕ × ℕ) → Bool
holds_index (Some (b, z)) = ltb (b + 8) z
holds_index None = true

-- change request 9: "whose first byte is the room's transparent index; without one it is 255"
abbrev pub index_in : List ℕ → Option (ℕ × ℕ) → ℕ
index_in s (Some (b, z)) = get_or s (b + 8) 0
index_in s None = 255

-- width a multiple of 8, 8 to 1,024; height 1 to 200; planes 0 to 4; objects 0 to 128
unfoldable pub sizes_right : (w h n objects : ℕ) → Bool
sizes_right w h n objects = eqb (w % 8) 0 && leb 8 w && leb w 1024 && leb 1 h && leb h 200 && leb n 4 && leb objects 128

-- what RMHD, RMIH and TRNS say, with the OBCD blocks counted
unfoldable pub room_of : List ℕ → Parts → Room
room_of s p =
    record {
      width = le16 s p.header;
      height = le16 s (p.header + 2);
      planes = le16 s p.image_header;
      objects = count_tag tag-OBCD s 8 (length s);
      clear = index_in s (trns_in s);
      image = p.image;
      image_end = p.image_end;
      smap = p.smap;
      smap_end = p.smap_end;
    }

unfoldable pub sized : Room → Result Room ℕ
sized r = cond (sizes_right r.width r.height r.planes r.objects) (Ok r) (Err 3)

abbrev pub head_in : List ℕ → Option Parts → Result Room ℕ
head_in s (Some p) = cond (objects_right s && holds_index (trns_in s)) (sized (room_of s p)) (Err 2)
head_in s None = Err 2

-- refusals 1, 2 and 3 of a room, in that order, or its sizes and where its picture stands
unfoldable pub head_of : List ℕ → Result Room ℕ
head_of s = cond (well_formed s) (head_in s (needed_in s)) (Err 1)

-- ---- for the proofs: no public promise rests on what follows

-- what holds of a room that has none of the refusals 1 to 3
pub record Sound (s : List ℕ) (r : Room) : Type 0 where
  pub small : length s ≤ 1048576
  pub whole : r.width % 8 ≡ 0
  pub narrowest : 8 ≤ r.width
  pub widest : r.width ≤ 1024
  pub lowest : 1 ≤ r.height
  pub highest : r.height ≤ 200
  pub few : r.planes ≤ 4
  pub counted : r.objects ≤ 128
  pub image_in : r.image ≤ r.image_end
  pub image_last : r.image_end ≤ length s
  pub smap_in : r.smap + 8 ≤ r.smap_end
  pub smap-last : r.smap_end ≤ length s
