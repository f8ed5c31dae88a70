-- The least room's blocks around any picture: refusals 1 to 3 of it, and where its parts stand. SMAP stands from byte 48 on.
use Rattle.std.proofs.Common.{◌≡◌, refl, sym, ap, ap₂, ◌∙◌, Bool, true, false, List, [], ◌++◌, ℕ, zero, suc, ◌+◌, ◌-◌, ◌≤◌, ◌<◌, zero-le, arith, le-leb, eq-eqb, lit<, length, get_or, length-append, Option, Some, None}
use Rattle.number.specs.Number.{be32, be32_bytes}
use Rattle.number.proofs.BoolLaws.{and-true}
use Rattle.block.specs.Tag.{container, tag-ROOM, tag-RMHD, tag-RMIM, tag-RMIH, tag-IM00, tag-SMAP, tag-OBCD, tag-CDHD, tag-OBIM, tag-IMHD, tag-TRNS}
use Rattle.block.specs.Tree.{block_end, block_ok, list_ok, well_formed, tagged, find_tag, each_has, all_of, has_in}
use Rattle.block.proofs.Laws.{payload-long}
use Rattle.block.proofs.ListLaws.{Stands, stands_end, leaf_right, container-right, list_right, none-tagged, find_first}
use Rattle.room.specs.Head.{when_found, both_found, headed_in, with_header, background_in, needed_in, objects_right, trns_in}
use Rattle.room.specs.declared.Parts.{Parts}
use Rattle.demands.specs.Written.{block}
use Rattle.demands.proofs.WrittenBlocks.{Held, held_all, held-left, held-right, length-of, block_stands, payload-held}

-- ---- which of the room's blocks hold blocks

abbrev Kind : (tag : ℕ) → Bool → Type 0
Kind tag b = container (be32_bytes tag) 0 ≡ b

room_kind : Kind tag-ROOM true
unfolding container be32_bytes
room_kind = refl

image_kind : Kind tag-RMIM true
unfolding container be32_bytes
image_kind = refl

state_kind : Kind tag-IM00 true
unfolding container be32_bytes
state_kind = refl

head_kind : Kind tag-RMHD false
unfolding container be32_bytes
head_kind = refl

count_kind : Kind tag-RMIH false
unfolding container be32_bytes
count_kind = refl

-- ---- two blocks, one after the other

-- the first or the second; where the first starts, the second, and where it ends
abbrev pair_tag : (t u : ℕ) → ℕ → ℕ
pair_tag t u zero = t
pair_tag t u (suc j) = u

abbrev pair_at : (a b e : ℕ) → ℕ → ℕ
pair_at a b e zero = a
pair_at a b e (suc zero) = b
pair_at a b e (suc (suc j)) = e

module _ (t u : ℕ) (s : List ℕ) (a b e : ℕ) (one : Stands t s a b) (two : Stands u s b e) where
  both_stand : (j : ℕ) → j < 2 → Stands (pair_tag t u j) s (pair_at a b e j) (pair_at a b e (suc j))
  both_stand zero lt = one
  both_stand (suc zero) lt = two
  both_stand (suc (suc j)) lt = absurd (omega arith)

  pair_right : (d : ℕ) → block_ok d s a b ≡ true → block_ok d s b e ≡ true → list_ok d s a e ≡ true
  pair_right d p q = list_right s 2 (pair_tag t u) (pair_at a b e) both_stand d each
    where
      each : (j : ℕ) → j < 2 → block_ok d s (pair_at a b e j) (pair_at a b e (suc j)) ≡ true
      each zero lt = p
      each (suc zero) lt = q
      each (suc (suc j)) lt = absurd (omega arith)

  find_one : find_tag t s a e ≡ Some (a, b)
  find_one = find_first s 2 (pair_tag t u) (pair_at a b e) both_stand 0 (omega arith) (λ j lt. absurd (omega arith))

  find_two : (t ≡ u → ⊥) → find_tag u s a e ≡ Some (b, e)
  find_two other = find_first s 2 (pair_tag t u) (pair_at a b e) both_stand 1 (omega arith) before
    where
      before : (j : ℕ) → j < 1 → pair_tag t u j ≡ u → ⊥
      before zero lt = other
      before (suc j) lt = absurd (omega arith)

  find_none : (v : ℕ) → (t ≡ v → ⊥) → (u ≡ v → ⊥) → tagged v s a e ≡ []
  find_none v p q = none-tagged s 2 (pair_tag t u) (pair_at a b e) both_stand v others
    where
      others : (j : ℕ) → j < 2 → pair_tag t u j ≡ v → ⊥
      others zero lt = p
      others (suc j) lt = q

  -- a header of n bytes or more and the block beside it
  headed_pair : (n : ℕ) → (t ≡ u → ⊥) → n ≤ b - (a + 8) → headed_in t n u s a e ≡ Some (a + 8, b + 8, e)
  unfolding headed_in
  headed_pair n other long =
      ap₂ both_found (sym (payload-long n a b (find_tag t s a e) (sym find_one) long))
      (sym (payload-long 0 b e (find_tag u s a e) (sym (find_two other)) zero-le))

each_none : (t c n : ℕ) (s : List ℕ) (a e : ℕ) → tagged t s a e ≡ [] → each_has t c n s a e ≡ true
unfolding each_has
each_none t c n s a e none = ap (all_of (has_in c n s)) none

-- ---- the room

module _ (header count body : List ℕ) (six : length header ≡ 6) (two : length count ≡ 2) (few : length body ≤ 1048528) where
  abbrev picture : List ℕ
  picture = block tag-RMIH count ++ block tag-IM00 body

  abbrev content : List ℕ
  content = block tag-RMHD header ++ block tag-RMIM picture

  abbrev pub room : List ℕ
  room = block tag-ROOM content

  picture-long : length picture ≡ 18 + length body
  picture-long = omega (arith, length-append (block tag-RMIH count) (block tag-IM00 body), length-of tag-RMIH count, length-of tag-IM00 body)

  content_long : length content ≡ 40 + length body
  content_long =
      omega (arith, length-append (block tag-RMHD header) (block tag-RMIM picture), length-of tag-RMHD header, length-of tag-RMIM picture, picture-long)

  pub room-long : length room ≡ 48 + length body
  room-long = omega (arith, length-of tag-ROOM content, content_long)

  content_held : Held room 8 content
  content_held = payload-held room 0 tag-ROOM content (held_all room) 8 refl

  header-block : Held room 8 (block tag-RMHD header)
  header-block = held-left room 8 (block tag-RMHD header) (block tag-RMIM picture) content_held

  image-block : Held room 22 (block tag-RMIM picture)
  image-block = held-right room 8 (block tag-RMHD header) (block tag-RMIM picture) 22 (omega (arith, length-of tag-RMHD header)) content_held

  picture-held : Held room 30 picture
  picture-held = payload-held room 22 tag-RMIM picture image-block 30 refl

  count-block : Held room 30 (block tag-RMIH count)
  count-block = held-left room 30 (block tag-RMIH count) (block tag-IM00 body) picture-held

  state-block : Held room 40 (block tag-IM00 body)
  state-block = held-right room 30 (block tag-RMIH count) (block tag-IM00 body) 40 (omega (arith, length-of tag-RMIH count)) picture-held

  -- the payloads
  pub header-held : Held room 16 header
  header-held = payload-held room 8 tag-RMHD header header-block 16 refl

  pub count_held : Held room 38 count
  count_held = payload-held room 30 tag-RMIH count count-block 38 refl

  pub body_held : Held room 48 body
  body_held = payload-held room 40 tag-IM00 body state-block 48 refl

  -- the blocks
  room_stands : Stands tag-ROOM room 0 (length room)
  room_stands =
      block_stands room 0 tag-ROOM content (held_all room) (lit< tt) (omega (arith, content_long)) (length room) (omega (arith, length-of tag-ROOM content))

  header_stands : Stands tag-RMHD room 8 22
  header_stands = block_stands room 8 tag-RMHD header header-block (lit< tt) (omega arith) 22 (omega arith)

  image_stands : Stands tag-RMIM room 22 (length room)
  image_stands =
      block_stands room 22 tag-RMIM picture image-block (lit< tt) (omega (arith, picture-long)) (length room) (omega (arith, picture-long, room-long))

  count_stands : Stands tag-RMIH room 30 40
  count_stands = block_stands room 30 tag-RMIH count count-block (lit< tt) (omega arith) 40 (omega arith)

  state_stands : Stands tag-IM00 room 40 (length room)
  state_stands = block_stands room 40 tag-IM00 body state-block (lit< tt) (omega arith) (length room) (omega (arith, room-long))

  -- no refusal 1, where the picture's blocks fill it
  pub formed : list_ok 3 room 48 (length room) ≡ true → well_formed room ≡ true
  unfolding well_formed
  formed filled =
      let end = length room in
      let state = container-right tag-IM00 room 40 end state_stands 3 state_kind filled in
      let pictures = pair_right tag-RMIH tag-IM00 room 30 40 end count_stands state_stands 4
      (leaf_right tag-RMIH room 30 40 count_stands 3 count_kind) state in
      let image = container-right tag-RMIM room 22 end image_stands 4 image_kind pictures in
      let blocks = pair_right tag-RMHD tag-RMIM room 8 22 end header_stands image_stands 5
      (leaf_right tag-RMHD room 8 22 header_stands 4 head_kind) image in
      rw (
        le-leb end 1048576 (omega (arith, room-long)),
        le-leb 8 end (omega (arith, room-long)),
        eq-eqb (be32 room 0) tag-ROOM room_stands.tag,
        eq-eqb (block_end room 0 end) end (sym (stands_end tag-ROOM room 0 end room_stands end (omega arith))),
      )
      (container-right tag-ROOM room 0 end room_stands 5 room_kind blocks)

  -- no refusal 2
  abbrev pub parts : (smap smap-end : ℕ) → Parts
  parts smap smap-end =
      record { header = 16; image_header = 38; image = 48; image_end = length room; smap = smap; smap_end = smap-end }

  pub needed_found : (smap smap-end : ℕ) → find_tag tag-SMAP room 48 (length room) ≡ Some (smap, smap-end)
      → needed_in room ≡ Some (parts smap smap-end)
  unfolding needed_in background_in
  needed_found smap smap-end found =
      let end = length room in
      let outer = headed_pair tag-RMHD tag-RMIM room 8 22 end header_stands image_stands 6 (λ e. omega (arith, e)) (omega arith) in
      let inner = headed_pair tag-RMIH tag-IM00 room 30 40 end count_stands state_stands 2 (λ e. omega (arith, e)) (omega arith) in
      ap (λ (q : Option (ℕ × ℕ × ℕ)). with_header q λ hd im im-end. background_in room hd im im-end) outer
      ∙ ap (λ (q : Option (ℕ × ℕ × ℕ)). with_header q λ ih bg bg-end. when_found (find_tag tag-SMAP room bg bg-end) λ sm sm-end.
      Some (record { header = 16; image_header = ih; image = bg; image_end = bg-end; smap = sm; smap_end = sm-end })) inner
      ∙ ap (λ (q : Option (ℕ × ℕ)). when_found q λ sm sm-end.
      Some (record { header = 16; image_header = 38; image = 48; image_end = end; smap = sm; smap_end = sm-end })) found

  -- and no object
  no-objects : tagged tag-OBCD room 8 (length room) ≡ []
  no-objects =
      find_none tag-RMHD tag-RMIM room 8 22 (length room) header_stands image_stands tag-OBCD (λ e. omega (arith, e)) (λ e. omega (arith, e))

  no_images : tagged tag-OBIM room 8 (length room) ≡ []
  no_images =
      find_none tag-RMHD tag-RMIM room 8 22 (length room) header_stands image_stands tag-OBIM (λ e. omega (arith, e)) (λ e. omega (arith, e))

  pub trns_none : trns_in room ≡ None
  unfolding trns_in
  trns_none =
      ap (λ (l : List (Option (ℕ × ℕ))). get_or l 0 None)
      (find_none tag-RMHD tag-RMIM room 8 22 (length room) header_stands image_stands tag-TRNS (λ e. omega (arith, e)) (λ e. omega (arith, e)))

  pub objects-none : length (tagged tag-OBCD room 8 (length room)) ≡ 0
  objects-none = ap length no-objects

  pub objects-right : objects_right room ≡ true
  unfolding objects_right
  objects-right =
      and-true (each_has tag-OBCD tag-CDHD 13 room 8 (length room)) (each_has tag-OBIM tag-IMHD 16 room 8 (length room))
      (each_none tag-OBCD tag-CDHD 13 room 8 (length room) no-objects) (each_none tag-OBIM tag-IMHD 16 room 8 (length room) no_images)
