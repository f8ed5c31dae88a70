-- The least room around written blocks passes its whole test: refusals 1 to 3, and 5 to 8 of its background and planes.
use Rattle.std.proofs.Common.{◌≡◌, refl, sym, ap, ap₂, ◌∙◌, subst, Bool, true, false, cond, List, ◌++◌, ℕ, zero, suc, ◌+◌, ◌/◌, ◌%◌, ◌≤◌, ◌<◌, arith, le-leb, eq-eqb, lit<, length, length-append, Some, None, Ok, Err}
use Rattle.number.specs.Number.{le16, le16_bytes}
use Rattle.block.specs.Tag.{tag-OBCD, tag-SMAP, tag-ZP}
use Rattle.block.specs.Tree.{list_ok, well_formed, tagged, find_tag}
use Rattle.block.proofs.ListLaws.{Stands}
use Rattle.table.specs.Test.{and_then}
use Rattle.block_writer.specs.Block.{smap_tag, plane_tag, body_for}
use Rattle.block_writer.specs.Reads.{SmapReads, PlaneReads}
use Rattle.block_writer.proofs.CallLaws.{Sizes}
use Rattle.block_writer.proofs.PlacedLaws.{leftmost-all}
use Rattle.room.specs.Head.{needed_in, objects_right, trns_in, holds_index, index_in, sizes_right, room_of, sized, head_in, head_of}
use Rattle.room.specs.Picture.{plane_found, plane_test, smap_and_planes_test}
use Rattle.room.specs.Test.{pictures_test}
use Rattle.room.specs.declared.Parts.{Parts}
use Rattle.room.specs.declared.Room.{Room}
use Rattle.demands.specs.Written.{concat_to, room_around}
use Rattle.demands.proofs.WrittenBlocks.{Held, held-left, held-right, held_reads, held-le16, one-held, written_stands}
use Rattle.demands.proofs.RefusalTests.{both_hold}
use Rattle.demands.proofs.WrittenHead as head
use Rattle.demands.proofs.WrittenPicture as picture
use Rattle.demands.proofs.WrittenRows.{length_most}
use Rattle.demands.proofs.WrittenCalls.{Written}

sizes-right : (w h n : ℕ) → Sizes w h → n ≤ 4 → sizes_right w h n 0 ≡ true
unfolding sizes_right
sizes-right w h n k few =
    rw (
      eq-eqb (w % 8) 0 k.even,
      le-leb 8 w k.wide,
      le-leb w 1024 k.narrow,
      le-leb 1 h k.one,
      le-leb h 200 k.high,
      le-leb n 4 few,
    )
    refl

length-le16 : (v : ℕ) → length (le16_bytes v) ≡ 2
unfolding le16_bytes
length-le16 v = refl

module _ (w h n : ℕ) (rows : List ℕ) (planes : ℕ → List ℕ) (smap : List ℕ) (blocks : ℕ → List ℕ) (few : n ≤ 4)
    (by : Written w h n rows planes smap blocks) where
  abbrev header : List ℕ
  header = le16_bytes w ++ (le16_bytes h ++ le16_bytes 0)

  abbrev body : List ℕ
  body = smap ++ concat_to blocks n

  abbrev pub s : List ℕ
  s = room_around w h n smap blocks

  six : length header ≡ 6
  six =
      omega (
        arith,
        length-append (le16_bytes w) (le16_bytes h ++ le16_bytes 0),
        length-append (le16_bytes h) (le16_bytes 0),
        length-le16 w,
        length-le16 h,
        length-le16 0,
      )

  body_long : length body ≡ length smap + length (concat_to blocks n)
  body_long = length-append smap (concat_to blocks n)

  body_few : length body ≤ 1048528
  body_few = omega (arith, body_long, by.smap-small, length_most blocks 65536 n by.plane-small)

  abbrev pub plane_at : ℕ → ℕ
  plane_at k = 48 + length smap + length (concat_to blocks k)

  -- ---- the bytes in their places

  s_long : length s ≡ plane_at n
  unfolding room_around
  s_long = omega (arith, head.room-long header (le16_bytes n) body six (length-le16 n) body_few, body_long)

  body_held : Held s 48 body
  unfolding room_around
  body_held = head.body_held header (le16_bytes n) body six (length-le16 n) body_few

  smap-held : Held s 48 smap
  smap-held = held-left s 48 smap (concat_to blocks n) body_held

  plane-held : (k : ℕ) → k < n → Held s (plane_at k) (blocks (suc k))
  plane-held k lt = one-held blocks s (48 + length smap) n k lt (held-right s 48 smap (concat_to blocks n) (48 + length smap) refl body_held)

  planes-next : (k : ℕ) → plane_at k + length (blocks (suc k)) ≡ plane_at (suc k)
  unfolding concat_to
  planes-next k = omega (arith, length-append (concat_to blocks k) (blocks (suc k)))

  -- ---- as blocks, and as what they read to

  smap_stands : Stands tag-SMAP s 48 (48 + length smap)
  smap_stands =
      written_stands s 48 smap_tag false (w / 8) (body_for false (w / 8) h rows) (lit< tt) (subst (λ (q : List ℕ). Held s 48 q) by.smap_is smap-held)
      (length smap) (ap length (sym by.smap_is)) (omega (arith, by.smap-small))

  plane_stands : (k : ℕ) → k < n → Stands (tag-ZP (suc k)) s (plane_at k) (plane_at (suc k))
  plane_stands k lt =
      subst (λ (z : ℕ). Stands (tag-ZP (suc k)) s (plane_at k) z) (planes-next k)
      (written_stands s (plane_at k) (plane_tag (suc k)) true (w / 8) (body_for true (w / 8) h (planes (suc k))) (omega arith)
      (subst (λ (q : List ℕ). Held s (plane_at k) q) (by.plane_is k lt) (plane-held k lt))
      (length (blocks (suc k))) (ap length (sym (by.plane_is k lt))) (omega (arith, by.plane-small k lt)))

  pub smap-reads : SmapReads (w / 8) h rows s 48 (48 + length smap)
  smap-reads = held_reads s 48 (λ q a z. SmapReads (w / 8) h rows q a z) smap (length smap) by.smap-reads smap-held

  pub plane-reads : (k : ℕ) → k < n → PlaneReads (suc k) (w / 8) h (planes (suc k)) s (plane_at k) (plane_at (suc k))
  plane-reads k lt =
      subst (λ (z : ℕ). PlaneReads (suc k) (w / 8) h (planes (suc k)) s (plane_at k) z) (planes-next k)
      (held_reads s (plane_at k) (λ q a z. PlaneReads (suc k) (w / 8) h (planes (suc k)) q a z) (blocks (suc k)) (length (blocks (suc k)))
      (by.plane-reads k lt) (plane-held k lt))

  smap-found : find_tag tag-SMAP s 48 (length s) ≡ Some (48, 48 + length smap)
  smap-found = ap (find_tag tag-SMAP s 48) s_long ∙ picture.smap-found s smap blocks n 48 few smap_stands plane_stands

  pub plane-found : (k : ℕ) → k < n → find_tag (tag-ZP (suc k)) s 48 (length s) ≡ Some (plane_at k, plane_at (suc k))
  plane-found k lt = ap (find_tag (tag-ZP (suc k)) s 48) s_long ∙ picture.plane-found s smap blocks n 48 few smap_stands plane_stands k lt

  -- ---- refusals 1 to 3

  abbrev pub r : Room
  r =
      record {
        width = w;
        height = h;
        planes = n;
        objects = 0;
        image = 48;
        image_end = length s;
        smap = 48;
        smap_end = 48 + length smap;
        clear = 255;
      }

  formed : well_formed s ≡ true
  unfolding room_around
  formed =
      head.formed header (le16_bytes n) body six (length-le16 n) body_few
      (ap (list_ok 3 s 48) s_long ∙ picture.pictures_fill s smap blocks n 48 few smap_stands plane_stands 2)

  abbrev parts : Parts
  parts = record { header = 16; image_header = 38; image = 48; image_end = length s; smap = 48; smap_end = 48 + length smap }

  needed_found : needed_in s ≡ Some parts
  unfolding room_around
  needed_found = head.needed_found header (le16_bytes n) body six (length-le16 n) body_few 48 (48 + length smap) smap-found

  objects-right : objects_right s ≡ true
  unfolding room_around
  objects-right = head.objects-right header (le16_bytes n) body six (length-le16 n) body_few

  trns_none : trns_in s ≡ None
  unfolding room_around
  trns_none = head.trns_none header (le16_bytes n) body six (length-le16 n) body_few

  objects-none : length (tagged tag-OBCD s 8 (length s)) ≡ 0
  unfolding room_around
  objects-none = head.objects-none header (le16_bytes n) body six (length-le16 n) body_few

  header-held : Held s 16 header
  unfolding room_around
  header-held = head.header-held header (le16_bytes n) body six (length-le16 n) body_few

  count_held : Held s 38 (le16_bytes n)
  unfolding room_around
  count_held = head.count_held header (le16_bytes n) body six (length-le16 n) body_few

  width_is : le16 s 16 ≡ w
  width_is = held-le16 s 16 w (omega (arith, by.allowed.narrow)) (held-left s 16 (le16_bytes w) (le16_bytes h ++ le16_bytes 0) header-held)

  height_is : le16 s 18 ≡ h
  height_is =
      held-le16 s 18 h (omega (arith, by.allowed.high))
      (held-left s 18 (le16_bytes h) (le16_bytes 0)
      (held-right s 16 (le16_bytes w) (le16_bytes h ++ le16_bytes 0) 18 (omega (arith, length-le16 w)) header-held))

  count_is : le16 s 38 ≡ n
  count_is = held-le16 s 38 n (omega arith) count_held

  room_is : room_of s parts ≡ r
  unfolding room_of
  room_is =
      λ i.
      record {
        width = width_is i;
        height = height_is i;
        planes = count_is i;
        objects = objects-none i;
        image = 48;
        image_end = length s;
        smap = 48;
        smap_end = 48 + length smap;
        clear = index_in s (trns_none i);
      }

  pub head_is : head_of s ≡ Ok r
  unfolding head_of sized
  head_is =
      ap (λ (q : Bool). cond q (head_in s (needed_in s)) (Err 1)) formed
      ∙ ap (head_in s) needed_found
      ∙ ap (λ (q : Bool). cond q (sized (room_of s parts)) (Err 2))
      ((both_hold (objects_right s) (holds_index (trns_in s))).1 (objects-right, ap holds_index trns_none))
      ∙ ap sized room_is
      ∙ ap (λ (q : Bool). cond q (Ok r) (Err 3)) (sizes-right w h n by.allowed few)

  -- ---- the pictures

  planes_pass : (k : ℕ) → 1 ≤ k → k < suc n → plane_test (w / 8) h s 48 (length s) k ≡ Ok tt
  unfolding plane_test
  planes_pass zero one lt = absurd (omega arith)
  planes_pass (suc k) one lt = ap (plane_found (w / 8) h s) (plane-found k (omega arith)) ∙ (plane-reads k (omega arith)).test

  pub pictures_pass : pictures_test s r ≡ Ok tt
  unfolding pictures_test smap_and_planes_test
  pictures_pass =
      ap₂ and_then smap-reads.test (leftmost-all 1 (suc n) (plane_test (w / 8) h s 48 (length s)) planes_pass n 1 (omega arith) (omega arith))
