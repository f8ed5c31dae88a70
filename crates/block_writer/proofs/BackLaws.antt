-- That the strips of a block that is written read back, for a block in its place: the bytes of a strip, the offsets' room, and each
-- strip as the reader's definitions (crate table) read it.
use Rattle.std.proofs.Common.{◌≡◌, refl, sym, ap, ap₂, ◌∙◌, subst, Bool, true, false, cond, List, ℕ, ◌+◌, ◌*◌, ◌/◌, ◌%◌, ◌≤◌, ◌<◌, one-mul, div-one, arith, length, get_or, replicate, lit<, ltb, eqb, ltb-true, ltb-false, eq-eqb, ne_eqb}
use native.Mathlib.Nat.{mod-one}
use lib.ListN.{get_or-eq_default}
use Rattle.strip.specs.Strip.{values}
use Rattle.strip.specs.Picture.{up_to, picture, strip_of}
use Rattle.strip.proofs.PictureLaws.{length-up_to, get_or-up_to}
use Rattle.plane.specs.Mask.{rows_of, literals}
use Rattle.table.specs.Table.{offset_at}
use Rattle.table.specs.Body.{body_of, strip_at, rows_at}
use Rattle.strip_writer.specs.Rows.{rows_body}
use Rattle.strip_writer.proofs.PixelLaws.{Bytes, strip_back}
use Rattle.strip_writer.proofs.RowLaws.{Back, none, some, rows_back}
use Rattle.strip_writer.proofs.WritingLaws.{length-strip}
use Rattle.block_writer.specs.Block.{place_of, strip_bytes, pixels_of_strip, rows_of_strip, body_for, size_of, smap_tag, smap_block}
use Rattle.block_writer.proofs.StripBytesLaws.{length-strip_bytes}
use Rattle.block_writer.proofs.BoundLaws.{pixels_body_few, rows_body-few, sum-few}
use Rattle.block_writer.proofs.CallLaws.{length-block}
use Rattle.block_writer.proofs.PlacedLaws.{most, start_of, Placed, none_is, offset_is, body_is}

-- ---- the bytes of a strip

strip_of-bytes : (own wide h : ℕ) (rows : List ℕ) (k : ℕ) → Bytes rows → Bytes (strip_bytes own wide h rows k)
unfolding strip_bytes
strip_of-bytes own wide h rows k b i = go (ltb i (own * h)) refl
  where
    f : ℕ → ℕ
    f j = get_or rows (place_of own wide k j) 0

    go : (t : Bool) → ltb i (own * h) ≡ t → get_or (up_to f (own * h)) i 0 < 256
    go true e = subst (λ (x : ℕ). x < 256) (sym (get_or-up_to f (own * h) i (ltb-true i (own * h) e))) (b (place_of own wide k i))
    go false e =
        let out : length (up_to f (own * h)) ≤ i = omega (arith, length-up_to f (own * h), ltb-false i (own * h) e) in
        subst (λ (x : ℕ). x < 256) (sym (get_or-eq_default (up_to f (own * h)) 0 out)) (lit< tt)

-- pixel (x, y) of a picture 8n wide stands in strip x / 8, and row y of strip k of a plane at y
pub pixel-at : (n h x y : ℕ) (rows : List ℕ) → x < 8 * n → y < h → get_or (pixels_of_strip n h rows (x / 8)) (8 * y + x % 8) 0 ≡ get_or rows (y * (8 * n) + x) 0
unfolding strip_bytes
pixel-at n h x y rows hx hy =
    let q : (8 * y + x % 8) / 8 ≡ y = omega arith in
    let r : 8 * (x / 8) + (8 * y + x % 8) % 8 ≡ x = omega arith in
    get_or-up_to (λ i. get_or rows (place_of 8 (8 * n) (x / 8) i) 0) (8 * h) (8 * y + x % 8) (omega arith)
    ∙ ap₂ (λ (a b : ℕ). get_or rows (a * (8 * n) + b) 0) q r

pub row_at : (n h k y : ℕ) (rows : List ℕ) → y < h → get_or (rows_of_strip n h rows k) y 0 ≡ get_or rows (y * n + k) 0
unfolding strip_bytes
row_at n h k y rows hy =
    let r : 1 * k + y % 1 ≡ k = omega (arith, mod-one y) in
    get_or-up_to (λ i. get_or rows (place_of 1 n k i) 0) (1 * h) y (omega arith) ∙ ap₂ (λ (a b : ℕ). get_or rows (a * n + b) 0) (div-one y) r

-- ---- the offsets can hold the places: at most 520 + 128 * 2,048 bytes of an SMAP, and 264 + 128 * 400 < 65,536 of a ZP

pub size_few : (mask : Bool) (n h : ℕ) (rows : List ℕ) → 1 ≤ h → h ≤ 200 → n ≤ 128 → size_of mask n (body_for mask n h rows) < most mask
unfolding size_of
size_few false n h rows one high few = omega (arith, sum-few (body_for false n h rows) 2001 (λ k. omega (arith, pixels_body_few n h rows k one)) 0 n)
size_few true n h rows one high few = omega (arith, sum-few (body_for true n h rows) 267 (λ k. omega (arith, rows_body-few n h rows k)) 0 n)

pub length-smap : (n h : ℕ) (rows : List ℕ) → 1 ≤ h → h ≤ 200 → n ≤ 128 → length (smap_block n h rows) ≤ 262664
unfolding size_of
length-smap n h rows one high few =
    omega (
      arith,
      length-block smap_tag false n (body_for false n h rows),
      sum-few (body_for false n h rows) 2001 (λ k. omega (arith, pixels_body_few n h rows k one)) 0 n,
    )

-- ---- strip k of a block in its place

pub some_body : (mask : Bool) (n h : ℕ) (rows : List ℕ) → 1 ≤ h → (k : ℕ) → mask ≡ false → 1 ≤ length (body_for mask n h rows k)
unfolding body_for
some_body true n h rows one k e = absurd (let z : ◌≡◌ {A = ℕ} 0 1 = cc in omega arith)
some_body false n h rows one k e =
    let px = pixels_of_strip n h rows k in
    let len : length px ≡ 8 * h = length-strip_bytes 8 (8 * n) h rows k in
    omega (arith, length-strip px (omega arith))

module _ (n h : ℕ) (rows s : List ℕ) (b z : ℕ) (one : 1 ≤ h) where
  pub strip_is : Placed false n (body_for false n h rows) s b z → Bytes rows → (k : ℕ) → k < n
      → strip_at n h s b z k ≡ picture false (pixels_of_strip n h rows k)
  unfolding strip_at body_for
  strip_is p bytes k lt =
      let px = pixels_of_strip n h rows k in
      let len : length px ≡ 8 * h = length-strip_bytes 8 (8 * n) h rows k in
      ap (strip_of h) (body_is false n (body_for false n h rows) s b z p k lt (some_body false n h rows one k refl))
      ∙ strip_back h px one len (strip_of-bytes 8 (8 * n) h rows k bytes)

  pub rows_are : Placed true n (body_for true n h rows) s b z → (k : ℕ) → k < n → rows_at n h s b z k ≡ values (rows_of_strip n h rows k)
  unfolding rows_at body_for
  rows_are p k lt = go (rows_back (rows_of_strip n h rows k) (omega (arith, len)))
    where
      len : length (rows_of_strip n h rows k) ≡ h
      len = length-strip_bytes 1 n h rows k ∙ one-mul h

      go : Back (rows_body (rows_of_strip n h rows k)) (rows_of_strip n h rows k)
          → cond (eqb (offset_at true s b k) 0) (values (replicate h 0)) (rows_of (body_of true n s b z k) h (literals 0)) ≡ values (rows_of_strip n h rows k)
      go (none e zeros) =
          let o : offset_at true s b k ≡ 0 = none_is true n (body_for true n h rows) s b z p k lt (ap length e) in
          rw (eq-eqb (offset_at true s b k) 0 o) (ap values (sym (zeros ∙ ap (λ (j : ℕ). replicate j 0) len)))
      go (some few e) =
          let o : offset_at true s b k ≡ start_of true n (body_for true n h rows) k = offset_is true n (body_for true n h rows) s b z p k lt few in
          rw (ne_eqb (offset_at true s b k) 0 (λ (w : offset_at true s b k ≡ 0). omega arith))
          (ap (λ (q : List ℕ). rows_of q h (literals 0)) (body_is true n (body_for true n h rows) s b z p k lt few)
          ∙ ap (λ (j : ℕ). rows_of (rows_body (rows_of_strip n h rows k)) j (literals 0)) (sym len)
          ∙ e)
