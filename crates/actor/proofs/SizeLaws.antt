-- What the tests of a call leave known where they hold. Assumes nothing.
use Rattle.std.proofs.Common.{◌≡◌, refl, ap, ◌∙◌, Bool, true, false, ◌&&◌, cond, ℕ, suc, ◌*◌, ◌/◌, ◌%◌, ◌≤◌, ◌<◌, mul_comm, mul_assoc, arith, leb-true, ltb-true, eqb-true, leb}
use Rattle.number.proofs.BoolLaws.{both}
use Rattle.actor.specs.Sizes.{sizes_fit, picture_fits, mask_bytes, buffers_fit, Planes}
use Rattle.actor.specs.Hidden.{hidden_number}
use Rattle.actor.specs.Stamp.{stamp_number, Buffers}

-- no refusal: the test holds, and none comes after it
pub none-refused : (b : Bool) (n rest : ℕ) → cond b rest (suc n) ≡ 0 → (b ≡ true) × (rest ≡ 0)
none-refused true n rest e = (refl, e)
none-refused false n rest e = absurd (omega arith)

pub record Ranges (w h n : ℕ) : Type 0 where
  pub some : 8 ≤ w
  pub wide : w ≤ 1024
  pub whole : w % 8 ≡ 0
  pub high : h ≤ 200
  pub few : n ≤ 4

pub ranges : (w h n : ℕ) → sizes_fit w h n ≡ true → Ranges w h n
unfolding sizes_fit
ranges w h n e =
    let f = both _ _ e in
    let d = both _ _ f.0 in
    let c = both _ _ d.0 in
    let b = both _ _ c.0 in
    let a = both _ _ b.0 in
    record {
      some = leb-true _ _ a.0;
      wide = leb-true _ _ a.1;
      whole = eqb-true _ _ b.1;
      high = leb-true _ _ d.1;
      few = leb-true _ _ f.1;
    }

some-width : (w h n : ℕ) → Ranges w h n → 0 < w
some-width w h n r = omega arith

pub picture_ranges : (width height : ℕ) → picture_fits width height ≡ true → (width ≤ 128) × (height ≤ 200)
unfolding picture_fits
picture_ranges width height e =
    let d = both (leb 1 width && leb width 128 && leb 1 height) (leb height 200) e in
    let c = both (leb 1 width && leb width 128) (leb 1 height) d.0 in
    let a = both (leb 1 width) (leb width 128) c.0 in
    (leb-true _ _ a.1, leb-true _ _ d.1)

-- N planes of S by H bytes are a grid S wide and N · H high
pub mask_grid : (w h n : ℕ) → mask_bytes w h n ≡ w / 8 * (n * h)
mask_grid w h n = ap (λ (k : ℕ). k * h) (mul_comm n (w / 8)) ∙ mul_assoc (w / 8) n h

pub planes : (len w h n : ℕ) → Ranges w h n → mask_bytes w h n ≤ len → Planes len w h n
planes len w h n r e = record { wide = r.wide; whole = r.whole; high = r.high; few = r.few; room = rw mask_grid at e }

-- an accepted question
pub hidden_accepted : (len w h n x y : ℕ) → hidden_number len w h n x y ≡ 0 → Planes len w h n × ((x < w) × (y < h))
unfolding hidden_number
hidden_accepted len w h n x y e =
    let a = none-refused _ _ _ e in
    let b = none-refused _ _ _ a.1 in
    let c = none-refused _ _ _ b.1 in
    let d = both _ _ c.0 in
    (planes len w h n (ranges w h n a.0) (leb-true _ _ b.0), (ltb-true _ _ d.0, ltb-true _ _ d.1))

-- an accepted stamp
pub stamp_accepted : (frame masks picture w h n width height : ℕ) → stamp_number frame masks picture w h n width height ≡ 0
    → Buffers frame masks picture w h n width height
unfolding stamp_number buffers_fit
stamp_accepted frame masks picture w h n width height e =
    let a = none-refused _ _ _ e in
    let s = both _ _ a.0 in
    let r = ranges w h n s.0 in
    let p = picture_ranges width height s.1 in
    let c = both _ _ (none-refused _ _ _ a.1).0 in
    let b = both _ _ c.0 in
    record {
      some = some-width w h n r;
      room = leb-true _ _ b.0;
      planes = planes masks w h n r (leb-true _ _ b.1);
      narrow = p.0;
      short = p.1;
      all = leb-true _ _ c.1;
    }
