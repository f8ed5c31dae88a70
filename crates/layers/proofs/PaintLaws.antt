-- What the boxes that the code writes are in crate scene's words: the room's own strips, and an entry's strips over them. Assumes nothing.
use Rattle.std.proofs.Common.{◌≡◌, refl, sym, ap, ◌∙◌, Bool, true, false, not, cond, ◌&&◌, List, [], ◌∷◌, ℕ, ◌+◌, ◌-◌, ◌*◌, ◌/◌, ◌%◌, ◌≤◌, ◌<◌, mod-lt, div-lt_iff_lt-mul, arith, eqb, leb, ltb, get_or}
use Rattle.grid.specs.Grid.{upd, within, boxed}
use Rattle.grid.specs.Mask.{mask_over}
use Rattle.grid.proofs.Upd.{upd_ext, upd_id, upd_then}
use Rattle.grid.proofs.Box.{within_yes}
use Rattle.table.specs.Body.{pixel_at}
use Rattle.load.specs.Load.{background, mask}
use Rattle.room.specs.Head.{Sound}
use Rattle.room.specs.Test.{strips}
use Rattle.room.specs.declared.Room.{Room}
use Rattle.image.specs.Pixel.{image_clear, image_colour}
use Rattle.scene.specs.Painting.{covers, reaches, opaque, over_pixel, over_mask, pixel_layout, mask_layout, rebuilt_bytes}
use Rattle.scene.specs.declared.Entry.{Entry}
use Rattle.scene.proofs.Loops.{pixel-strips, mask-strips}
use Rattle.layers.specs.declared.Source.{Source}
use Rattle.layers.specs.Decoded.{decoded}
use Rattle.layers.specs.Layer.{strip_byte, over_byte}
use Rattle.layers.specs.Source.{strip_in, mask_in, picture_over, rows_byte, planes_byte, Stands}
use Rattle.layers.specs.Ready.{Paintable}
use Rattle.layers.proofs.ByteLaws.{pixel_box, plane_box, strip-past}
use Rattle.layers.proofs.EntryLaws.{same-pixel, same_bits}
use Rattle.layers.proofs.LayerLaws.{over-one, fresh_none}

-- ---- strip j of a picture's planes over strip k, plane after plane
module _ (s : List ℕ) (m : Source) (j n h k y : ℕ) (replace : Bool) (l : List ℕ) where
  abbrev up_to : ℕ → ℕ → ℕ → ℕ
  up_to p = strip_byte ((p - 1) * h * n) (λ i. i % n) k (rows_byte s m j n h k y replace)

  pub planes-none : l ≡ upd (up_to 1) l
  planes-none =
      sym (upd_id (up_to 1) l (λ i o. strip-past ((1 - 1) * h * n) (λ i. i % n) k (rows_byte s m j n h k y replace) i o (omega arith)))

  pub planes-more : (p : ℕ) (px qx : List ℕ) → 1 ≤ p → 0 < n → 0 < h → y + m.height ≤ h → px ≡ upd (up_to p) l
      → qx ≡ upd (boxed n k ((p - 1) * h + y) 1 m.height (λ c q o. mask_over replace (mask_in s m p j q) o)) px → qx ≡ upd (up_to (p + 1)) l
  unfolding rows_byte
  planes-more p px qx one some tall low so put =
      let next : p - 1 + 1 ≡ p + 1 - 1 = omega arith in
      upd_then (up_to p) (boxed n k ((p - 1) * h + y) 1 m.height (λ c q o. mask_over replace (mask_in s m p j q) o)) (up_to (p + 1)) l px qx
      (λ i o. plane_box n h k (p - 1) y m.height (λ c q o. mask_over replace (mask_in s m p j q) o) (rows_byte s m j n h k y replace) some tall low
      (λ a b is on. let plane : a / n / h + 1 ≡ p = omega arith in rw plane) i o
      ∙ ap (λ (t : ℕ). strip_byte (t * h * n) (λ i. i % n) k (rows_byte s m j n h k y replace) i o) next)
      so put

module _ (s : List ℕ) (r : Room) (sound : Sound s r) (k : ℕ) (within-room : k < strips r) where
  abbrev n : ℕ
  n = strips r

  abbrev w : ℕ
  w = 8 * strips r

  pub width_is : r.width ≡ 8 * strips r
  width_is = omega (arith, sound.whole)

  -- ---- the room's own strip
  pub fresh_pixels : (l px : List ℕ)
      → px ≡ upd (boxed (8 * n) (8 * k) 0 8 r.height (λ c y o. pixel_at n r.height s r.smap r.smap_end (8 * k + c) y)) l
      → px ≡ rebuilt_bytes (pixel_layout (decoded s r)) [] (λ t. eqb t k) l
  unfolding pixel_layout decoded background
  fresh_pixels l px so =
      fresh_none (pixel_layout (decoded s r)) k l (λ i o. cond (within 0 r.height (i / w)) (background s r (8 * k + (i % w - 8 * k)) (i / w - 0)) o) px
      same
      (so ∙ upd_ext _ _ l
      (λ i lt. pixel_box n r.height k 0 r.height (λ c y o. background s r (8 * k + c) y) _ (omega arith) (omega arith) (λ j o e. refl) i (get_or l i 0)))
    where
      same : (i o : ℕ) → i < r.height * w → i % w / 8 ≡ k
          → cond (within 0 r.height (i / w)) (background s r (8 * k + (i % w - 8 * k)) (i / w - 0)) o ≡ background s r (i % w) (i / w)
      same i o lt e =
          let pos : 0 < w = omega arith in
          let row : i / w < r.height = (div-lt_iff_lt-mul pos).1 lt in
          let column : 8 * k + (i % w - 8 * k) ≡ i % w = omega arith in
          let line : i / w - 0 ≡ i / w = omega arith in
          rw (within_yes 0 r.height (i / w) (omega arith) (omega arith), column, line)

  pub fresh_masks : (m : Source) → m.payload ≡ r.image → m.payload_end ≡ r.image_end → m.strips ≡ strips r → m.height ≡ r.height → (l px : List ℕ)
      → px ≡ upd (planes_byte s m k n r.height r.planes k 0 true) l
      → px ≡ rebuilt_bytes (mask_layout (decoded s r)) [] (λ t. eqb t k) l
  unfolding mask_layout decoded rows_byte mask
  fresh_masks m start end wide high l px so =
      fresh_none (mask_layout (decoded s r)) k l (rows_byte s m k n r.height k 0 true) px
      (λ i o lt e.
      let row : i / n % r.height < r.height = mod-lt (i / n) sound.lowest in
      let line : i / n % r.height - 0 ≡ i / n % r.height = omega arith in
      rw (start, end, wide, high, within_yes 0 r.height (i / n % r.height) (omega arith) (omega arith), line, e))
      so

  -- ---- an entry that covers the strip, over it
  module _ (e : Entry) (p : Paintable s r e) (m : Source) (at : Stands s e.object e.state m) (on : covers (decoded s r) e k ≡ true) where
    abbrev j : ℕ
    j = k - e.x / 8

    pixel_cell : (i o : ℕ) → i % w / 8 ≡ k
        → over_pixel (decoded s r) (i % w) (i / w) e o
        ≡ cond (within e.y m.height (i / w)) (picture_over r.clear (strip_in s m j) (8 * (i / w - e.y) + (i % w - 8 * k)) o) o
    unfolding over_pixel decoded reaches within
    pixel_cell i o is =
        let column : i % w % 8 ≡ i % w - 8 * k = omega arith in
        rw (is, on, ← at.height_is, column) (go (leb e.y (i / w) && ltb (i / w) (e.y + m.height)))
      where
        go : (b : Bool)
            → cond (b && not (image_clear r.planes r.clear s e.object e.state j (i / w - e.y) (i % w - 8 * k)))
            (image_colour r.planes s e.object e.state j (i / w - e.y) (i % w - 8 * k)) o
            ≡ cond b (picture_over r.clear (strip_in s m j) (8 * (i / w - e.y) + (i % w - 8 * k)) o) o
        go true = same-pixel s r e p m at j (i / w - e.y) (i % w - 8 * k) o
        go false = refl

    pub over-pixels : e.y + m.height ≤ r.height → (l px : List ℕ)
        → px ≡ upd (boxed r.width (8 * k) e.y 8 m.height (λ c y o. picture_over r.clear (strip_in s m j) (8 * y + c) o)) l
        → px ≡ upd (over_byte (pixel_layout (decoded s r)) (e ∷ []) k) l
    unfolding pixel_layout decoded
    over-pixels low l px so =
        over-one (pixel_layout (decoded s r)) k l e (λ i o. over_pixel (decoded s r) (i % w) (i / w) e o) px (λ i o lt is. refl)
        (rw width_is at so ∙ upd_ext _ _ l
        (λ i lt. pixel_box n r.height k e.y m.height (λ c y o. picture_over r.clear (strip_in s m j) (8 * y + c) o) _ (omega arith) low
        pixel_cell i (get_or l i 0)))

    module _ (replace : Bool) (shut : replace ≡ opaque (decoded s r) e.object e.state j) where
      mask_cell : (i o : ℕ) → i % n ≡ k
          → rows_byte s m j n r.height k e.y replace i o ≡ over_mask (decoded s r) (i / n / r.height) (i % n) (i / n % r.height) e o
      unfolding over_mask decoded reaches within rows_byte
      mask_cell i o is =
          rw (is, on, ← at.height_is, ← shut, same_bits s r e p m at (i / n / r.height + 1) j (i / n % r.height - e.y))

      pub over-masks : (l px : List ℕ)
          → px ≡ upd (planes_byte s m j n r.height r.planes k e.y replace) l
          → px ≡ upd (over_byte (mask_layout (decoded s r)) (e ∷ []) k) l
      unfolding mask_layout decoded
      over-masks l px so =
          over-one (mask_layout (decoded s r)) k l e (rows_byte s m j n r.height k e.y replace) px (λ i o lt is. mask_cell i o is) so

-- ---- both surfaces have the room's strips
module _ (s : List ℕ) (r : Room) (i : ℕ) where
  pub in_pixels : i < (pixel_layout (decoded s r)).size → (pixel_layout (decoded s r)).strip i < strips r
  unfolding decoded
  in_pixels = pixel-strips (decoded s r) i

  pub in_masks : i < (mask_layout (decoded s r)).size → (mask_layout (decoded s r)).strip i < strips r
  unfolding decoded
  in_masks = mask-strips (decoded s r) i
