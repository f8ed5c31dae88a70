-- What a load leaves, byte by byte: pixels and mask bytes as the strips read, the session empty, and every other lent byte as it was.
use Rattle.std.proofs.Common.{◌≡◌, refl, sym, ap, ◌∙◌, Bool, true, false, List, ℕ, ◌+◌, ◌-◌, ◌*◌, ◌/◌, ◌%◌, ◌≤◌, ◌<◌, le-div_iff_mul-le, mul_comm, arith, length, get_or, replicate, Option, Some, None, Result, Ok}
use mathlib.Core.Logic.{by_cases}
use native.Mathlib.Decide.{dec_lt}
use lib.Arith.{digits_div, digits_mod, digits_lt}
use lib.ListN.{get_or-eq_default}
use Rattle.number.specs.Buffer.{over}
use Rattle.grid.specs.Grid.{upd, boxed}
use Rattle.grid.proofs.Upd.{length-upd, get_or-upd}
use Rattle.grid.proofs.Box.{cell_lt, within-hi, boxed_in, boxed_off}
use Rattle.strip.specs.Strip.{Strip, refused, values}
use Rattle.strip.specs.Picture.{kind_of, source_of, Picture, refusal, picture}
use Rattle.strip.specs.declared.Kind.TheVariants.{Coded}
use Rattle.table.specs.Body.{strip_at, rows_at, pixels_of, row_values, pixel_at, mask_at}
use Rattle.table.specs.Test.{picture_test, rows_test, strip_test}
use Rattle.table.proofs.BlockLaws.{not-passed, block-strip}
use Rattle.room.specs.Picture.{plane_in, found_mask}
use Rattle.room.specs.Test.{strips, with_surfaces}
use Rattle.room.specs.declared.Room.{Room}
use Rattle.room.proofs.PictureLaws.{found-passes}
use Rattle.room.proofs.TestLaws.{Passes, test-passes, surfaces-long}
use Rattle.load.specs.Load.{background, mask, loaded_pixels, loaded_masks, session_after, pixels_after, masks_after}
use Rattle.load.proofs.LoadLaws.{background-passes, plane-passes}
use Rattle.stored.specs.Layout.{session_size}
use Rattle.stored.specs.Bytes.{emptied}
use Rattle.play.specs.Bytes.{Lent, test_of, after_load}
use Rattle.demands.specs.Demand2.{body_in, operations}
use Rattle.demands.proofs.StripReads.{raw_pixel, coded_pixel}

-- ---- a strip that passes

strip_read : (p : Picture) → picture_test p ≡ Ok tt → (j : ℕ)
    → (clear : Bool) × (px : List ℕ) × (p ≡ picture clear px) × (get_or (pixels_of p) j 0 ≡ get_or px j 0)
strip_read (refusal n) passed j = absurd (not-passed n passed)
strip_read (picture clear px) passed j = (clear, px, refl, refl)

rows_read : (x : Strip) → rows_test x ≡ Ok tt → (y : ℕ) → (rows : List ℕ) × (x ≡ values rows) × (get_or (row_values x) y 0 ≡ get_or rows y 0)
rows_read (refused n) passed y = absurd (not-passed n passed)
rows_read (values rows) passed y = (rows, refl, refl)

-- ---- the cells of a grid that is written whole

module _ (w h : ℕ) (f : ℕ → ℕ → ℕ → ℕ) (old : List ℕ) where
  cell_is : (x y : ℕ) → x < w → y < h → w * h ≤ length old
      → get_or (upd (boxed w 0 0 w h f) old) (y * w + x) 0 ≡ f x y (get_or old (y * w + x) 0)
  cell_is x y in-x in-y long =
      let i = y * w + x in
      let row : i / w ≡ y = digits_div y in-x in
      let column : i % w ≡ x = digits_mod y in-x in
      let o : ℕ = get_or old i 0 in
      get_or-upd (boxed w 0 0 w h f) old i (omega (arith, cell_lt w h x y in-x in-y))
      ∙ boxed_in w 0 0 w h f i o (omega arith) (omega (arith, row)) (omega arith) (omega (arith, column))
      ∙ (let dx : i % w - 0 ≡ x = omega (arith, column) in let dy : i / w - 0 ≡ y = omega (arith, row) in λ k. f (dx k) (dy k) o)

  -- a byte past the grid stays
  cell_past : 0 < w → (i : ℕ) → w * h ≤ i → get_or (upd (boxed w 0 0 w h f) old) i 0 ≡ get_or old i 0
  cell_past some i past =
      by_cases (dec_lt i (length old))
      (λ lt.
      let below : h ≤ i / w = (le-div_iff_mul-le some).1 (omega (arith, past, mul_comm w h)) in
      get_or-upd (boxed w 0 0 w h f) old i lt ∙ boxed_off w 0 0 w h f i (get_or old i 0) (within-hi 0 h (i / w) (omega (arith, below))))
      (λ ge.
      let long : length old ≤ i = omega (arith, ge) in
      let same : length (upd (boxed w 0 0 w h f) old) ≡ length old = length-upd (boxed w 0 0 w h f) old in
      get_or-eq_default (upd (boxed w 0 0 w h f) old) 0 (omega (arith, long, same)) ∙ sym (get_or-eq_default old 0 long))

-- ---- a room that a load accepts

module _ (s : List ℕ) (b : Lent) (r : Room) (accepted : Ok r ≡ test_of s b) where
  passes : Passes (with_surfaces session_size (length b.session) (length b.pixels) (length b.masks)) s r
  passes = test-passes (with_surfaces session_size (length b.session) (length b.pixels) (length b.masks)) s r accepted

  long : (session_size ≤ length b.session) × (r.width * r.height ≤ length b.pixels) × (strips r * (r.planes * r.height) ≤ length b.masks)
  long = surfaces-long session_size (length b.session) (length b.pixels) (length b.masks) r passes.enough

  pixels_are : (after_load s b).pixels ≡ loaded_pixels s r b.pixels
  pixels_are = sym (ap (λ (t : Result Room ℕ). pixels_after s t b.pixels) accepted)

  masks_are : (after_load s b).masks ≡ loaded_masks s r b.masks
  masks_are = sym (ap (λ (t : Result Room ℕ). masks_after s t b.masks) accepted)

  session_is : (after_load s b).session ≡ over (replicate session_size 0) b.session
  unfolding emptied
  session_is = sym (ap (λ (t : Result Room ℕ). session_after t b.session) accepted)

  -- ---- pixels

  module _ (x y : ℕ) (in-x : x < r.width) (in-y : y < r.height) where
    loaded-pixel : get_or (loaded_pixels s r b.pixels) (y * r.width + x) 0 ≡ background s r x y
    unfolding loaded_pixels
    loaded-pixel = cell_is r.width r.height (λ u v o. background s r u v) b.pixels x y in-x in-y long.1

    pub left-pixel : get_or (after_load s b).pixels (y * r.width + x) 0 ≡ background s r x y
    left-pixel = ap (λ (l : List ℕ). get_or l (y * r.width + x) 0) pixels_are ∙ loaded-pixel

    strip-right : strip_test false (strips r) r.height s r.smap r.smap_end (x / 8) ≡ Ok tt
    strip-right =
        block-strip false (strips r) r.height s r.smap r.smap_end (background-passes s r passes.pictures) (x / 8)
        (omega (arith, passes.sound.whole))

    pub pixels_read : (clear : Bool) × (px : List ℕ) × (strip_at (strips r) r.height s r.smap r.smap_end (x / 8) ≡ picture clear px)
        × (get_or (after_load s b).pixels (y * r.width + x) 0 ≡ get_or px (8 * y + x % 8) 0)
    unfolding background pixel_at strip_test
    pixels_read =
        let read = strip_read (strip_at (strips r) r.height s r.smap r.smap_end (x / 8)) strip-right (8 * y + x % 8) in
        (read.0, read.1, read.2, left-pixel ∙ read.3)

    raw_background : get_or (body_in s r (x / 8)) 0 0 ≡ 0x01 → background s r x y ≡ get_or (body_in s r (x / 8)) (1 + (8 * y + x % 8)) 0
    unfolding background pixel_at strip_at strip_test
    raw_background code = raw_pixel r.height (body_in s r (x / 8)) code strip-right (8 * y + x % 8) (omega arith)

    pub raw_loaded : get_or (body_in s r (x / 8)) 0 0 ≡ 0x01
        → get_or (after_load s b).pixels (y * r.width + x) 0 ≡ get_or (body_in s r (x / 8)) (1 + 8 * y + x % 8) 0
    raw_loaded code =
        let place : 1 + (8 * y + x % 8) ≡ 1 + 8 * y + x % 8 = omega arith in
        left-pixel ∙ raw_background code ∙ ap (λ (j : ℕ). get_or (body_in s r (x / 8)) j 0) place

    module _ (second vertical clear : Bool) (w : ℕ) (kind : kind_of (get_or (body_in s r (x / 8)) 0 0) ≡ Coded second vertical clear w) where
      coded_background : (xs : List ℕ) × (operations second w r.height (body_in s r (x / 8)) ≡ values xs)
          × (background s r x y ≡ get_or xs (source_of vertical r.height (8 * y + x % 8)) 0)
      unfolding background pixel_at strip_at strip_test
      coded_background = coded_pixel second vertical clear w r.height (body_in s r (x / 8)) kind strip-right (8 * y + x % 8) (omega arith)

      pub coded_read : (xs : List ℕ) × (operations second w r.height (body_in s r (x / 8)) ≡ values xs)
          × (get_or (after_load s b).pixels (y * r.width + x) 0 ≡ get_or xs (source_of vertical r.height (8 * y + x % 8)) 0)
      coded_read = (coded_background.0, coded_background.1, left-pixel ∙ coded_background.2)

  -- ---- masks

  module _ (k t y : ℕ) (one : 1 ≤ k) (named : k ≤ r.planes) (in-t : t < strips r) (in-y : y < r.height) where
    loaded-mask : get_or (loaded_masks s r b.masks) (((k - 1) * r.height + y) * strips r + t) 0 ≡ mask s r k t y
    unfolding loaded_masks
    loaded-mask =
        let h = r.height in
        let q = (k - 1) * h + y in
        let plane : q / h ≡ k - 1 = digits_div (k - 1) in-y in
        let row : q % h ≡ y = digits_mod (k - 1) in-y in
        let number : q / h + 1 ≡ k = omega (arith, plane) in
        let below : k - 1 < r.planes = omega arith in
        let inside : q < r.planes * h = omega (arith, digits_lt below in-y) in
        cell_is (strips r) (r.planes * h) (λ c p o. mask s r (p / h + 1) c (p % h)) b.masks t q in-t inside long.2
        ∙ (λ i. mask s r (number i) t (row i))

    pub left-mask : get_or (after_load s b).masks (((k - 1) * r.height + y) * strips r + t) 0 ≡ mask s r k t y
    left-mask = ap (λ (l : List ℕ). get_or l (((k - 1) * r.height + y) * strips r + t) 0) masks_are ∙ loaded-mask

    mask_missing : plane_in s r.image r.image_end k ≡ None → mask s r k t y ≡ 0
    unfolding mask
    mask_missing none = ap (λ (f : Option (ℕ × ℕ)). found_mask (strips r) r.height s f t y) none

    mask-found : (from to : ℕ) → plane_in s r.image r.image_end k ≡ Some (from, to) → mask s r k t y ≡ get_or
        (row_values (rows_at (strips r) r.height s from to t)) y 0
    unfolding mask mask_at
    mask-found from to at = ap (λ (f : Option (ℕ × ℕ)). found_mask (strips r) r.height s f t y) at

    rows_right : (from to : ℕ) → plane_in s r.image r.image_end k ≡ Some (from, to) → rows_test (rows_at (strips r) r.height s from to t) ≡ Ok tt
    unfolding strip_test
    rows_right from to at =
        block-strip true (strips r) r.height s from to
        (found-passes (strips r) r.height s r.image r.image_end k from to (sym at) (plane-passes s r passes.pictures k one named)) t in-t

    pub masks_read : (plane_in s r.image r.image_end k ≡ None → get_or (after_load s b).masks (((k - 1) * r.height + y) * strips r + t) 0 ≡ 0)
        × ((from to : ℕ) → plane_in s r.image r.image_end k ≡ Some (from, to) → (rows : List ℕ) × (rows_at (strips r) r.height s from to t ≡ values rows)
        × (get_or (after_load s b).masks (((k - 1) * r.height + y) * strips r + t) 0 ≡ get_or rows y 0))
    masks_read = (
      λ none. left-mask ∙ mask_missing none,
      λ from to at.
          let read = rows_read (rows_at (strips r) r.height s from to t) (rows_right from to at) y in
          (read.0, read.1, left-mask ∙ mask-found from to at ∙ read.2),
    )

  -- ---- the rest

  length-pixels : length (loaded_pixels s r b.pixels) ≡ length b.pixels
  unfolding loaded_pixels
  length-pixels = length-upd (boxed r.width 0 0 r.width r.height (λ x y o. background s r x y)) b.pixels

  length-masks : length (loaded_masks s r b.masks) ≡ length b.masks
  unfolding loaded_masks
  length-masks =
      length-upd (boxed (strips r) 0 0 (strips r) (r.planes * r.height) (λ c q o. mask s r (q / r.height + 1) c (q % r.height))) b.masks

  pixels-past : (i : ℕ) → r.width * r.height ≤ i → get_or (loaded_pixels s r b.pixels) i 0 ≡ get_or b.pixels i 0
  unfolding loaded_pixels
  pixels-past i past =
      cell_past r.width r.height (λ x y o. background s r x y) b.pixels (omega (arith, passes.sound.narrowest)) i past

  masks-past : (i : ℕ) → strips r * (r.planes * r.height) ≤ i → get_or (loaded_masks s r b.masks) i 0 ≡ get_or b.masks i 0
  unfolding loaded_masks
  masks-past i past =
      cell_past (strips r) (r.planes * r.height) (λ c q o. mask s r (q / r.height + 1) c (q % r.height)) b.masks
      (omega (arith, passes.sound.narrowest)) i past

  pub load-rest : ((after_load s b).session ≡ over (replicate session_size 0) b.session)
      × (length (after_load s b).pixels ≡ length b.pixels) × (length (after_load s b).masks ≡ length b.masks)
      × ((i : ℕ) → r.width * r.height ≤ i → get_or (after_load s b).pixels i 0 ≡ get_or b.pixels i 0)
      × ((i : ℕ) → strips r * (r.planes * r.height) ≤ i → get_or (after_load s b).masks i 0 ≡ get_or b.masks i 0)
  load-rest = (
    session_is,
    ap length pixels_are ∙ length-pixels,
    ap length masks_are ∙ length-masks,
    λ i past. ap (λ (l : List ℕ). get_or l i 0) pixels_are ∙ pixels-past i past,
    λ i past. ap (λ (l : List ℕ). get_or l i 0) masks_are ∙ masks-past i past,
  )
