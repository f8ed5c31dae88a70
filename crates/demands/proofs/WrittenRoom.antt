-- A room made of written blocks is accepted with its sizes, and loads to exactly the rows given: so no reader that refuses everything, that has
-- one room for all inputs or that writes nothing can answer as document 01 says.
use Rattle.std.proofs.Common.{◌≡◌, refl, sym, ap, ◌∙◌, Bool, false, cond, List, ℕ, suc, ◌+◌, ◌*◌, ◌/◌, ◌%◌, ◌≤◌, ◌<◌, mul_comm, mul_assoc, mod-lt, div-add-mod', div-lt_iff_lt-mul, arith, le-ltb, length, get_or, take, length-take-le, get_or-take, Option, Result, Ok, Err}
use lib.Arith.{digits_lt}
use Rattle.number.specs.Buffer.{over}
use Rattle.strip_writer.proofs.PixelLaws.{Bytes}
use Rattle.block.specs.Tag.{tag-ZP}
use Rattle.block.specs.Tree.{find_tag}
use Rattle.block_writer.specs.Block.{smap_block, plane_block}
use Rattle.block_writer.specs.Call.{smap_outcome, plane_outcome, answer_of}
use Rattle.block_writer.proofs.CallLaws.{Sizes}
use Rattle.room.specs.Picture.{found_mask}
use Rattle.room.specs.Test.{pictures_test, short, room_when_passed, after_head, room_test, with_surfaces}
use Rattle.room.specs.declared.Room.{Room}
use Rattle.load.specs.Load.{background, mask, loaded_pixels, loaded_masks, pixels_after, masks_after, session_after}
use Rattle.stored.specs.Layout.{session_size}
use Rattle.stored.specs.Bytes.{emptied}
use Rattle.play.specs.Bytes.{Lent, test_of}
use Rattle.demands.specs.Written.{concat_to, room_around, smap_written, plane_written, Loads}
use Rattle.demands.proofs.WrittenRows.{box_over, length-all, one_at, plane-place}
use Rattle.demands.proofs.WrittenCalls.{Written, written, every}
use Rattle.demands.proofs.WrittenTest as test

module _ (w h n : ℕ) (rows : List ℕ) (planes : ℕ → List ℕ) (smap : List ℕ) (blocks : ℕ → List ℕ) (few : n ≤ 4)
    (by : Written w h n rows planes smap blocks) where
  abbrev s : List ℕ
  s = room_around w h n smap blocks

  abbrev r : Room
  r = test.r w h n rows planes smap blocks few by

  module _ (b : Lent) (session-long : session_size ≤ length b.session) (pixels-long : w * h ≤ length b.pixels)
      (masks-long : n * (w / 8) * h ≤ length b.masks) where
    masks-size : w / 8 * (n * h) ≡ n * (w / 8) * h
    masks-size = sym (mul_assoc (w / 8) n h) ∙ ap (λ (k : ℕ). k * h) (mul_comm (w / 8) n)

    long : short (with_surfaces session_size (length b.session) (length b.pixels) (length b.masks)) r ≡ false
    unfolding short
    long =
        rw (
          le-ltb (length b.session) session_size session-long,
          le-ltb (length b.pixels) (w * h) pixels-long,
          le-ltb (length b.masks) (w / 8 * (n * h)) (omega (arith, masks-size)),
        )
        refl

    accepted : test_of s b ≡ Ok r
    unfolding room_test after_head
    accepted =
        let lent = with_surfaces session_size (length b.session) (length b.pixels) (length b.masks) in
        ap (after_head lent s) (test.head_is w h n rows planes smap blocks few by)
        ∙ ap (λ (q : Bool). cond q (Err 4) (room_when_passed (pictures_test s r) r)) long
        ∙ ap (λ (t : Result (Unit {0}) ℕ). room_when_passed t r) (test.pictures_pass w h n rows planes smap blocks few by)

    wide : 8 * (w / 8) ≡ w
    wide = omega (arith, by.allowed.even)

    pixel_is : (i : ℕ) → i < h * w → background s r (i % w) (i / w) ≡ get_or (take (w * h) rows) i 0
    unfolding background
    pixel_is i lt =
        let k = by.allowed in
        let some : 0 < w = omega (arith, k.wide) in
        let whole : i / w * w + i % w ≡ i = div-add-mod' i w in
        let place : i / w * (8 * (w / 8)) + i % w ≡ i = ap (λ (j : ℕ). i / w * j + i % w) wide ∙ whole in
        (test.smap-reads w h n rows planes smap blocks few by).pixel (i % w) (i / w) (omega (arith, mod-lt i some, wide))
        ((div-lt_iff_lt-mul {k = w} {x = i} {y = h} some).1 lt)
        ∙ ap (λ (j : ℕ). get_or rows j 0) place
        ∙ sym (get_or-take (w * h) rows i 0 (omega (arith, mul_comm w h)))

    pixels_are : loaded_pixels s r b.pixels ≡ over (take (w * h) rows) b.pixels
    unfolding loaded_pixels
    pixels_are =
        box_over w h (background s r) (take (w * h) rows) b.pixels (length-take-le (w * h) rows by.some ∙ mul_comm w h)
        (omega (arith, mul_comm w h)) pixel_is

    abbrev given : ℕ → List ℕ
    given k = take (w / 8 * h) (planes k)

    given_long : (k : ℕ) → k < n → length (given (suc k)) ≡ w / 8 * h
    given_long k lt = length-take-le (w / 8 * h) (planes (suc k)) (by.some_rows k lt)

    -- row y of strip t of plane k + 1
    row_is : (k t y : ℕ) → k < n → t < w / 8 → y < h → mask s r (k + 1) t y ≡ get_or (given (suc k)) (y * (w / 8) + t) 0
    unfolding mask
    row_is k t y lt ht hy =
        let next : k + 1 ≡ suc k = omega arith in
        let inside : y * (w / 8) + t < w / 8 * h = omega (arith, digits_lt hy ht, mul_comm (w / 8) h) in
        ap (λ (j : ℕ). found_mask (w / 8) h s (find_tag (tag-ZP j) s 48 (length s)) t y) next
        ∙ ap (λ (f : Option (ℕ × ℕ)). found_mask (w / 8) h s f t y) (test.plane-found w h n rows planes smap blocks few by k lt)
        ∙ (test.plane-reads w h n rows planes smap blocks few by k lt).row t y ht hy
        ∙ sym (get_or-take (w / 8 * h) (planes (suc k)) (y * (w / 8) + t) 0 inside)

    mask_is : (i : ℕ) → i < n * h * (w / 8) → mask s r (i / (w / 8) / h + 1) (i % (w / 8)) (i / (w / 8) % h) ≡ get_or (concat_to given n) i 0
    mask_is i lt =
        let k = by.allowed in
        let some : 1 ≤ w / 8 = omega (arith, k.wide) in
        let p = plane-place n h (w / 8) i lt some k.one in
        let plane = i / (w / 8) / h in
        let t = i % (w / 8) in
        let y = i / (w / 8) % h in
        let ht : t < w / 8 = mod-lt i some in
        let hy : y < h = mod-lt (i / (w / 8)) k.one in
        row_is plane t y p.0 ht hy
        ∙ sym (one_at given (w / 8 * h) n plane (y * (w / 8) + t) given_long p.0 (omega (arith, digits_lt hy ht, mul_comm (w / 8) h)))
        ∙ ap (λ (j : ℕ). get_or (concat_to given n) j 0) (sym p.1)

    planes-size : n * (w / 8 * h) ≡ n * h * (w / 8)
    planes-size = ap (λ (k : ℕ). n * k) (mul_comm (w / 8) h) ∙ sym (mul_assoc n h (w / 8))

    masks_are : loaded_masks s r b.masks ≡ over (concat_to given n) b.masks
    unfolding loaded_masks
    masks_are =
        box_over (w / 8) (n * h) (λ k q. mask s r (q / h + 1) k (q % h)) (concat_to given n) b.masks
        (length-all given (w / 8 * h) n given_long ∙ planes-size)
        (omega (arith, planes-size, mul_assoc n (w / 8) h)) mask_is

    loads : Loads w h n rows planes s b
    unfolding emptied
    loads =
        record {
          room = r;
          accepted = accepted;
          width = refl;
          height = refl;
          count = refl;
          objects = refl;
          pixels = ap (λ (t : Result Room ℕ). pixels_after s t b.pixels) accepted ∙ pixels_are;
          masks = ap (λ (t : Result Room ℕ). masks_after s t b.masks) accepted ∙ masks_are;
          session = ap (λ (t : Result Room ℕ). session_after t b.session) accepted;
        }

-- background and planes written by accepted calls, and lent bytes that are long enough
pub written-room : (w h n : ℕ) (rows : List ℕ) (planes : ℕ → List ℕ) (target : List ℕ) (targets : ℕ → List ℕ) (len : ℕ) (lens : ℕ → ℕ)
    → n ≤ 4 → Bytes rows → Ok len ≡ answer_of (smap_outcome w h rows (length target))
    → ((k : ℕ) → 1 ≤ k → k ≤ n → Ok (lens k) ≡ answer_of (plane_outcome k w h (planes k) (length (targets k))))
    → (b : Lent) → session_size ≤ length b.session → w * h ≤ length b.pixels → n * (w / 8) * h ≤ length b.masks
    → Loads w h n rows planes
    (room_around w h n (smap_written w h rows target len) (λ k. plane_written k w h (planes k) (targets k) (lens k))) b
written-room w h n rows planes target targets len lens few bytes answer answers b session-long pixels-long masks-long =
    loads w h n rows planes (smap_written w h rows target len) (λ k. plane_written k w h (planes k) (targets k) (lens k)) few
    (written w h n rows planes target targets len lens answer answers bytes) b session-long pixels-long masks-long

-- and so there is a room for every picture and all planes of the allowed sizes
pub every-picture : (w h n : ℕ) (rows : List ℕ) (planes : ℕ → List ℕ) → w % 8 ≡ 0 → 8 ≤ w → w ≤ 1024 → 1 ≤ h → h ≤ 200 → n ≤ 4
    → Bytes rows → w * h ≤ length rows → ((k : ℕ) → 1 ≤ k → k ≤ n → w / 8 * h ≤ length (planes k))
    → (s : List ℕ)
    × ((b : Lent) → session_size ≤ length b.session → w * h ≤ length b.pixels → n * (w / 8) * h ≤ length b.masks → Loads w h n rows planes s b)
every-picture w h n rows planes even broad narrow one high few bytes some each =
    let allowed : Sizes w h = record { even = even; wide = broad; narrow = narrow; one = one; high = high } in (
      room_around w h n (smap_block (w / 8) h rows) (λ k. plane_block k (w / 8) h (planes k)),
      loads w h n rows planes (smap_block (w / 8) h rows) (λ k. plane_block k (w / 8) h (planes k)) few
          (every w h n rows planes allowed few bytes some (λ k lt. each (suc k) (omega arith) lt)),
    )
