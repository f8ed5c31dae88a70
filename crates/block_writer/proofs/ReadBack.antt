-- Demand 2, of the writers: "Pictures and planes that we write are exactly the bytes of [document 01's] writing rule, and read back as
-- the rows given." That the bytes are the rule's is what the calls' contracts say; here is that they read back, by the reader's own
-- definitions: crate table's test of a block, its strips, its pixels and its mask bytes.
use Rattle.std.proofs.Common.{◌≡◌, refl, sym, ap, ◌∙◌, subst, Bool, true, false, ◌&&◌, cond, List, [], ◌++◌, append-nil, ℕ, ◌+◌, ◌*◌, ◌/◌, ◌%◌, ◌^◌, ◌≤◌, ◌<◌, zero-add, arith, length, get_or, take, drop, take_at, leb, ltb, lit<, leb-true, ltb-false, Ok, Err}
use Rattle.number.proofs.BoolLaws.{both}
use Rattle.number.specs.Buffer.{over}
use Rattle.table.specs.Table.{table_right}
use Rattle.table.specs.Body.{pixels_of, row_values, pixel_at, mask_at}
use Rattle.table.specs.Test.{picture_test, rows_test, strip_test}
use Rattle.strip_writer.proofs.PixelLaws.{Bytes}
use Rattle.block_writer.specs.Block.{body_for, block_of, smap_tag, plane_tag, smap_block, plane_block}
use Rattle.block_writer.specs.Call.{refused, written, sizes_allowed, source_size, block_outcome, smap_outcome, plane_outcome, answer_of, target_after}
use Rattle.block_writer.specs.Reads.{SmapReads, PlaneReads}
use Rattle.block_writer.proofs.CallLaws.{Sizes, sizes, length-block}
use Rattle.block_writer.proofs.PlacedLaws.{most, Placed, placed, tag_back, size_back, table_is, block-passes}
use Rattle.block_writer.proofs.BackLaws.{pixel-at, row_at, size_few, length-smap, some_body, strip_is, rows_are}

-- ---- the block anywhere in a longer list

module _ (n h : ℕ) (rows : List ℕ) (few : n ≤ 128) (one : 1 ≤ h) (high : h ≤ 200) where
  pub smap-reads_in : Bytes rows → (before after : List ℕ)
      → SmapReads n h rows (before ++ (smap_block n h rows ++ after)) (length before) (length before + length (smap_block n h rows))
  unfolding pixel_at strip_test
  smap-reads_in bytes before after =
      let f : ℕ → List ℕ = body_for false n h rows in
      let s = before ++ (smap_block n h rows ++ after) in
      let b = length before in
      let z = length before + length (smap_block n h rows) in
      let small = size_few false n h rows one high few in
      let p : Placed false n f s b z = placed smap_tag false n f before after small in
      let right : table_right false n s b z ≡ true = table_is false n f s b z p (λ k lt e. some_body false n h rows one k e) in
      let strip = strip_is n h rows s b z one p bytes in
      record {
        tag = tag_back smap_tag false n f before after small (lit< tt);
        size = size_back smap_tag false n f before after small small ∙ omega arith;
        table = right;
        test = block-passes false n h s b z right (λ k lt. ap picture_test (strip k lt));
        strip = strip;
        pixel = λ x y hx hy. ap (λ q. get_or (pixels_of q) (8 * y + x % 8) 0) (strip (x / 8) (omega arith)) ∙ pixel-at n h x y rows hx hy;
      }

  pub plane-reads_in : (k : ℕ) → k ≤ 4 → (before after : List ℕ)
      → PlaneReads k n h rows (before ++ (plane_block k n h rows ++ after)) (length before) (length before + length (plane_block k n h rows))
  unfolding mask_at strip_test
  plane-reads_in k fourth before after =
      let f : ℕ → List ℕ = body_for true n h rows in
      let s = before ++ (plane_block k n h rows ++ after) in
      let b = length before in
      let z = length before + length (plane_block k n h rows) in
      let small = size_few true n h rows one high few in
      let p : Placed true n f s b z = placed (plane_tag k) true n f before after small in
      let right : table_right true n s b z ≡ true = table_is true n f s b z p (λ t lt e. some_body true n h rows one t e) in
      let strip = rows_are n h rows s b z one p in
      record {
        tag = tag_back (plane_tag k) true n f before after small (omega arith);
        size = size_back (plane_tag k) true n f before after small (omega arith) ∙ omega arith;
        table = right;
        test = block-passes true n h s b z right (λ t lt. ap rows_test (strip t lt));
        strip = strip;
        row = λ t y ht hy. ap (λ q. get_or (row_values q) y 0) (strip t ht) ∙ row_at n h t y rows hy;
      }

  -- ---- the block alone: for every height, every number of strips, and every content

  pub smap-reads : Bytes rows → SmapReads n h rows (smap_block n h rows) 0 (length (smap_block n h rows))
  smap-reads bytes =
      let block = smap_block n h rows in
      subst (λ (q : List ℕ). SmapReads n h rows q 0 (length block)) (append-nil block)
      (subst (λ (z : ℕ). SmapReads n h rows (block ++ []) 0 z) (zero-add (length block)) (smap-reads_in bytes [] []))

  pub plane-reads : (k : ℕ) → k ≤ 4 → PlaneReads k n h rows (plane_block k n h rows) 0 (length (plane_block k n h rows))
  plane-reads k fourth =
      let block = plane_block k n h rows in
      subst (λ (q : List ℕ). PlaneReads k n h rows q 0 (length block)) (append-nil block)
      (subst (λ (z : ℕ). PlaneReads k n h rows (block ++ []) 0 z) (zero-add (length block)) (plane-reads_in k fourth [] []))

-- ---- the target after an accepted call

-- an accepted call had allowed sizes and enough rows, and wrote its block over the front of its target d, which is e after
pub record Accepted (tag : ℕ) (mask : Bool) (w h : ℕ) (rows d e : List ℕ) (len : ℕ) : Type 0 where
  pub allowed : Sizes w h
  pub enough : source_size mask (w / 8) h ≤ length rows
  pub size : length (block_of tag mask (w / 8) (body_for mask (w / 8) h rows)) ≡ len
  pub target : block_of tag mask (w / 8) (body_for mask (w / 8) h rows) ++ drop len d ≡ e

wrong : {P : Type 0} (len k : ℕ) → Ok len ≡ Err k → P
wrong len k e = absurd (let z : ◌≡◌ {A = ℕ} 0 1 = cc in omega arith)

block-accepted : (tag : ℕ) (mask : Bool) (w h : ℕ) (rows d e : List ℕ) (len : ℕ) → Sizes w h
    → Ok len ≡ answer_of (block_outcome tag mask (w / 8) h rows (length d)) → e ≡ target_after (block_outcome tag mask (w / 8) h rows (length d)) d
    → Accepted tag mask w h rows d e len
unfolding block_outcome over
block-accepted tag mask w h rows d e len allowed = go (ltb (length rows) (source_size mask (w / 8) h)) refl
    (ltb (length d) (length (block_of tag mask (w / 8) (body_for mask (w / 8) h rows))))
  where
    go : (p : Bool) → ltb (length rows) (source_size mask (w / 8) h) ≡ p → (q : Bool) → Ok len ≡ answer_of
        (cond p (refused 4) (cond q (refused 4) (written (block_of tag mask (w / 8) (body_for mask (w / 8) h rows)))))
        → e ≡ target_after (cond p (refused 4) (cond q (refused 4) (written (block_of tag mask (w / 8) (body_for mask (w / 8) h rows))))) d
        → Accepted tag mask w h rows d e len
    go true s q a t = wrong len 4 a
    go false s true a t = wrong len 4 a
    go false s false a t =
        let same : length (block_of tag mask (w / 8) (body_for mask (w / 8) h rows)) ≡ len = cc in
        record {
          allowed = allowed;
          enough = ltb-false (length rows) (source_size mask (w / 8) h) s;
          size = same;
          target = sym (t ∙ ap (λ (k : ℕ). block_of tag mask (w / 8) (body_for mask (w / 8) h rows) ++ drop k d) same);
        }

-- a call that gives 3 where its test fails
tested : (test : Bool) (tag : ℕ) (mask : Bool) (w h : ℕ) (rows d e : List ℕ) (len : ℕ)
    → Ok len ≡ answer_of (cond test (block_outcome tag mask (w / 8) h rows (length d)) (refused 3))
    → e ≡ target_after (cond test (block_outcome tag mask (w / 8) h rows (length d)) (refused 3)) d
    → (test ≡ true) × (Sizes w h → Accepted tag mask w h rows d e len)
tested true tag mask w h rows d e len a t = (refl, λ allowed. block-accepted tag mask w h rows d e len allowed a t)
tested false tag mask w h rows d e len a t = wrong len 3 a

module _ (tag : ℕ) (mask : Bool) (w h : ℕ) (rows d e : List ℕ) (len : ℕ) (a : Accepted tag mask w h rows d e len) where
  abbrev block : List ℕ
  block = block_of tag mask (w / 8) (body_for mask (w / 8) h rows)

  -- what holds of a block that stands before the bytes of d holds of e
  at_target : (P : List ℕ → ℕ → Type 0) → P (block ++ drop len d) (0 + length block) → P e len
  at_target P read =
      subst (λ (q : List ℕ). P q len) a.target (subst (λ (z : ℕ). P (block ++ drop len d) z) (zero-add (length block) ∙ a.size) read)

  -- the front of e is the block; what holds of the block inside a longer list holds of that front
  pub front : take len e ≡ block
  front = ap (take len) (sym a.target) ∙ take_at block (drop len d) len a.size

  at_front : (P : List ℕ → ℕ → Type 0) (before after : List ℕ) → P (before ++ (block ++ after)) (length before + length block)
      → P (before ++ (take len e ++ after)) (length before + len)
  at_front P before after read =
      subst (λ (q : List ℕ). P (before ++ (q ++ after)) (length before + len)) (sym front)
      (subst (λ (z : ℕ). P (before ++ (block ++ after)) (length before + z)) a.size read)

  -- a block's length fits its offsets
  short : len < most mask
  short =
      let k = a.allowed in
      omega (
        arith,
        a.size,
        length-block tag mask (w / 8) (body_for mask (w / 8) h rows),
        size_few mask (w / 8) h rows k.one k.high
            (omega (arith, k.narrow)),
      )

module _ (w h : ℕ) (rows d e : List ℕ) (len : ℕ) where
  module _ (answer : Ok len ≡ answer_of (smap_outcome w h rows (length d))) (target : e ≡ target_after (smap_outcome w h rows (length d)) d) where
    pub smap-accepted : Accepted smap_tag false w h rows d e len
    unfolding smap_outcome
    smap-accepted =
        let q = tested (sizes_allowed w h) smap_tag false w h rows d e len answer target in
        q.1 (sizes w h q.0)

    -- the SMAP block that an accepted call has left at the front of its target e
    pub smap-call-reads : Bytes rows → SmapReads (w / 8) h rows e 0 len
    smap-call-reads bytes =
        let k = smap-accepted.allowed in
        at_target smap_tag false w h rows d e len smap-accepted (λ q z. SmapReads (w / 8) h rows q 0 z)
        (smap-reads_in (w / 8) h rows (omega (arith, k.narrow)) k.one k.high bytes [] (drop len d))

    -- the same block taken out of the target, anywhere in a longer list
    pub smap-call-reads_in : Bytes rows → (before after : List ℕ)
        → SmapReads (w / 8) h rows (before ++ (take len e ++ after)) (length before) (length before + len)
    smap-call-reads_in bytes before after =
        let k = smap-accepted.allowed in
        at_front smap_tag false w h rows d e len smap-accepted (λ q z. SmapReads (w / 8) h rows q (length before) z) before after
        (smap-reads_in (w / 8) h rows (omega (arith, k.narrow)) k.one k.high bytes before after)

    -- in pixels: each one reads as it was given
    pub smap-call-pixel : Bytes rows → (x y : ℕ) → x < w → y < h → pixel_at (w / 8) h e 0 len x y ≡ get_or rows (y * w + x) 0
    smap-call-pixel bytes x y hx hy =
        let k = smap-accepted.allowed in
        let wide : 8 * (w / 8) ≡ w = omega (arith, k.even) in
        (smap-call-reads bytes).pixel x y (omega arith) hy ∙ ap (λ (j : ℕ). get_or rows (y * j + x) 0) wide

    pub smap-short : len < 2 ^ 32
    smap-short = short smap_tag false w h rows d e len smap-accepted

    -- at most 520 + 128 × 2,048 bytes
    pub smap-few : len ≤ 262664
    smap-few =
        let k = smap-accepted.allowed in
        omega (arith, smap-accepted.size, length-smap (w / 8) h rows k.one k.high (omega (arith, k.narrow)))

  module _ (k : ℕ) (answer : Ok len ≡ answer_of (plane_outcome k w h rows (length d))) (target : e ≡ target_after (plane_outcome k w h rows (length d)) d)
    where
      pub plane-accepted : Accepted (plane_tag k) true w h rows d e len × (k ≤ 4)
      unfolding plane_outcome
      plane-accepted =
          let q = tested (sizes_allowed w h && (leb 1 k && leb k 4)) (plane_tag k) true w h rows d e len answer target in
          let two = both (sizes_allowed w h) (leb 1 k && leb k 4) q.0 in
          (q.1 (sizes w h two.0), leb-true k 4 (both (leb 1 k) (leb k 4) two.1).1)

      -- the block ZP0k that an accepted call has left at the front of its target e
      pub plane-call-reads : PlaneReads k (w / 8) h rows e 0 len
      plane-call-reads =
          let r = plane-accepted.0.allowed in
          at_target (plane_tag k) true w h rows d e len plane-accepted.0 (λ q z. PlaneReads k (w / 8) h rows q 0 z)
          (plane-reads_in (w / 8) h rows (omega (arith, r.narrow)) r.one r.high k plane-accepted.1 [] (drop len d))

      pub plane-call-reads_in : (before after : List ℕ)
          → PlaneReads k (w / 8) h rows (before ++ (take len e ++ after)) (length before) (length before + len)
      plane-call-reads_in before after =
          let r = plane-accepted.0.allowed in
          at_front (plane_tag k) true w h rows d e len plane-accepted.0 (λ q z. PlaneReads k (w / 8) h rows q (length before) z) before after
          (plane-reads_in (w / 8) h rows (omega (arith, r.narrow)) r.one r.high k plane-accepted.1 before after)

      pub plane-short : len < 2 ^ 16
      plane-short = short (plane_tag k) true w h rows d e len plane-accepted.0
