-- Laws of an entry that could be drawn: what its tests say of its numbers, and what its image's strips and planes are. Assumes nothing.
use Rattle.std.proofs.Common.{◌≡◌, refl, sym, ap, ap₂, ◌∙◌, Bool, true, false, not, cond, ◌&&◌, List, ℕ, ◌+◌, ◌-◌, ◌*◌, ◌/◌, ◌%◌, ◌≤◌, ◌<◌, arith, leb-true, ltb-true, leb, ltb, eqb, get_or, Option, Some, None, Ok}
use Rattle.number.proofs.BoolLaws.{and_left, and_right}
use Rattle.block.specs.Tag.{tag-SMAP}
use Rattle.block.specs.Tree.{find_tag, is_at}
use Rattle.block.proofs.Laws.{nth_at}
use Rattle.table.specs.Body.{strip_at, pixels_of}
use Rattle.table.proofs.BlockLaws.{not-passed}
use Rattle.room.specs.Head.{Sound}
use Rattle.room.specs.Test.{strips}
use Rattle.room.specs.declared.Room.{Room}
use Rattle.image.specs.Image.{object_count, image_width, image_height, image_count, image_block, state_block, is_object, state_right, drawable}
use Rattle.image.specs.Fault.{image_test, state_test, image_fault}
use Rattle.image.specs.Pixel.{smap_of, image_strip, image_colour, image_clear, image_bits, clear_code}
use Rattle.image.proofs.ImageLaws.{state-at, object_right, state_bound}
use Rattle.image.proofs.FaultLaws.{fault_at, image_smap-passes, image_plane-passes, image_has_smap}
use Rattle.image.proofs.PixelLaws.{image_strip_at, image_bits_at}
use Rattle.image.specs.Gathered.{Gathered}
use Rattle.scene.specs.Painting.{every, opaque, covers}
use Rattle.scene.proofs.Allowed.{allowed-means}
use Rattle.scene.specs.declared.Entry.{Entry}
use Rattle.layers.specs.declared.Source.{Source}
use Rattle.layers.specs.Decoded.{decoded}
use Rattle.layers.specs.Layer.{none_clear}
use Rattle.layers.specs.Source.{Readable, PlanePasses, strip_in, mask_in, picture_over, picture_opaque, Stands}
use Rattle.layers.specs.Ready.{Paintable}
use Rattle.layers.proofs.EveryLaws.{every_rows}

-- an image without refusal has an SMAP
smap-of : (planes n h : ℕ) (s : List ℕ) (f : Option (ℕ × ℕ)) → state_test planes n h s f ≡ Ok tt → is_at (smap_of s f) ≡ true
smap-of planes n h s (Some (b, z)) passed = go (find_tag tag-SMAP s (b + 8) z) (image_has_smap planes n h s (b + 8) z passed)
  where
    go : (f : Option (ℕ × ℕ)) → (f ≡ None → ⊥) → is_at f ≡ true
    go (Some (b', z')) h = refl
    go None h = absurd (h refl)
smap-of planes n h s None passed = absurd (not-passed 2 passed)

-- what the tests of an entry say
pub record EntryFits (s : List ℕ) (r : Room) (e : Entry) : Type 0 where
  pub first : 1 ≤ e.object
  pub last : e.object ≤ object_count s
  pub state : e.state ≤ 9
  pub smap : is_at (smap_of s (state_block s e.object e.state)) ≡ true
  pub column : e.x % 8 ≡ 0
  pub whole : image_width s e.object % 8 ≡ 0
  pub wide : e.x + image_width s e.object ≤ 8 * strips r
  pub high : e.y + image_height s e.object ≤ r.height

-- what is read for an entry that covers strip k, and where it stands
pub record Covering (s : List ℕ) (r : Room) (e : Entry) (k : ℕ) (m : Source) : Type 0 where
  pub readable : Readable s m
  pub strip : k - e.x / 8 < m.strips
  pub planes : (q : ℕ) → 1 ≤ q → q ≤ r.planes → PlanePasses s m q
  pub low : e.y + m.height ≤ r.height

module _ (s : List ℕ) (r : Room) (e : Entry) (p : Paintable s r e) where
  abbrev o : ℕ
  o = e.object

  abbrev st : ℕ
  st = e.state

  pub entry_fits : EntryFits s r e
  unfolding drawable decoded image_fault
  entry_fits =
      let d1 = and_left (is_object s o && is_at (image_block s o) && state_right st (image_count s o)) (is_at (state_block s o st)) p.can_draw in
      let right = and_right (is_object s o && is_at (image_block s o)) (state_right st (image_count s o)) d1 in
      let object = object_right s o
      (and_left (is_object s o) (is_at (image_block s o)) (and_left (is_object s o && is_at (image_block s o)) (state_right st (image_count s o)) d1)) in
      let w = image_width s o in
      let h = image_height s o in
      let place = (allowed-means (decoded s r) e).0 p.in_room in
      record {
        first = object.0;
        last = object.1;
        state = state_bound st (image_count s o) right;
        smap = smap-of r.planes (w / 8) h s (state_block s o st) p.no-fault;
        column = place.aligned.0;
        whole = place.aligned.1;
        wide = place.inside.0;
        high = place.inside.1;
      }

  -- an entry that covers strip k shows the strip k - x / 8 of its image there
  pub covers_in : (k : ℕ) → covers (decoded s r) e k ≡ true → (e.x / 8 ≤ k) × (k < e.x / 8 + image_width s o / 8)
  unfolding covers decoded
  covers_in k h = (
    leb-true (e.x / 8) k (and_left (leb (e.x / 8) k) (ltb k (e.x / 8 + image_width s o / 8)) h),
    ltb-true k (e.x / 8 + image_width s o / 8) (and_right (leb (e.x / 8) k) (ltb k (e.x / 8 + image_width s o / 8)) h),
  )

  -- what the table of the room's objects says of the strips that it covers
  pub entry_covers : (t : List ℕ) (k : ℕ) (b : Bool) → Gathered s t
      → ((s' : List ℕ) (r' : Room) → Gathered s' t → 1 ≤ e.object → e.object ≤ object_count s' → b ≡ covers (decoded s' r') e k)
      → covers (decoded s r) e k ≡ b
  entry_covers t k b g said = sym (said s r g entry_fits.first entry_fits.last)

  -- where its image is read from
  module _ (m : Source) (at : Stands s o st m) where
    abbrev n : ℕ
    n = image_width s o / 8

    abbrev h : ℕ
    h = image_height s o

    tested : image_test r.planes n h s (at.block + 8) m.payload_end ≡ Ok tt
    tested = fault_at r.planes s o st at.block m.payload_end at.block_at ∙ p.no-fault

    smap_here : Some (m.smap, m.smap_end) ≡ find_tag tag-SMAP s (at.block + 8) m.payload_end
    smap_here = rw at.payload-at at at.smap_at

    source_readable : Sound s r → Readable s m
    source_readable sound =
        let fit = entry_fits in
        let strips_are = at.strips_are in
        let height_is = at.height_is in
        let block_in = state-at s o st at.block m.payload_end at.block_at in
        let smap_in = nth_at tag-SMAP s m.payload m.payload_end 0 m.smap m.smap_end at.smap_at in
        record {
          narrow = omega (arith, sound.widest);
          low = omega (arith, sound.highest);
          smap_in = omega arith;
          smap-last = omega arith;
          payload-last = omega arith;
          smap-passes = rw (at.strips_are, at.height_is)
              (image_smap-passes r.planes n h s (at.block + 8) m.payload_end tested m.smap m.smap_end smap_here);
        }

    source_plane : (k : ℕ) → 1 ≤ k → k ≤ r.planes → PlanePasses s m k
    source_plane k one le =
        rw (at.strips_are, at.height_is, at.payload-at)
        (image_plane-passes r.planes n h s (at.block + 8) m.payload_end tested m.smap m.smap_end smap_here k one le)

    pub covering : Sound s r → (k : ℕ) → covers (decoded s r) e k ≡ true → Covering s r e k m
    covering sound k on =
        let fit = entry_fits in
        let here = covers_in k on in
        record {
          readable = source_readable sound;
          strip = omega (arith, here, at.strips_are);
          planes = source_plane;
          low = omega (arith, at.height_is, fit.high);
        }

    -- its strips and planes
    same-strip : (j : ℕ) → image_strip r.planes s o st j ≡ strip_in s m j
    same-strip j =
        image_strip_at r.planes s o st at.block m.payload_end at.block_at p.no-fault m.smap m.smap_end smap_here j
        ∙ ap₂ (λ (a b : ℕ). strip_at a b s m.smap m.smap_end j) (sym at.strips_are) (sym at.height_is)

    pub same_bits : (k j y : ℕ) → image_bits r.planes s o st k j y ≡ mask_in s m k j y
    same_bits k j y =
        image_bits_at r.planes s o st at.block m.payload_end at.block_at p.no-fault k j y
        ∙ rw (at.strips_are, at.height_is, at.payload-at)

    pub same-pixel : (j y c below : ℕ)
        → cond (not (image_clear r.planes r.clear s o st j y c)) (image_colour r.planes s o st j y c) below
        ≡ picture_over r.clear (strip_in s m j) (8 * y + c) below
    unfolding image_clear image_colour picture_over
    same-pixel j y c below = rw (same-strip j) (go (clear_code (strip_in s m j) && eqb (get_or (pixels_of (strip_in s m j)) (8 * y + c) 0) r.clear))
      where
        go : (b : Bool) → cond (not b) (get_or (pixels_of (strip_in s m j)) (8 * y + c) 0) below
            ≡ cond b below (get_or (pixels_of (strip_in s m j)) (8 * y + c) 0)
        go true = refl
        go false = refl

    pub same-opaque : (j : ℕ) → picture_opaque r.clear (strip_in s m j) (8 * m.height) ≡ opaque (decoded s r) o st j
    unfolding none_clear opaque decoded image_clear image_colour
    same-opaque j =
        every_rows m.height (λ i. not (clear_code (strip_in s m j) && eqb (get_or (pixels_of (strip_in s m j)) i 0) r.clear))
        (λ y c. not (image_clear r.planes r.clear s o st j y c)) (λ y c ly lc. rw (same-strip j))
        ∙ ap (λ (q : ℕ). every q (λ y. every 8 (λ c. not (image_clear r.planes r.clear s o st j y c)))) at.height_is
