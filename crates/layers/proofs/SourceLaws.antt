-- Laws of a picture's source: what reading a strip of a tested picture leaves, and where an object's image stands. Assumes nothing.
use Rattle.std.proofs.Common.{◌≡◌, refl, sym, ap₂, ◌∙◌, Bool, true, false, not, ◌&&◌, List, ℕ, ◌+◌, ◌*◌, ◌/◌, ◌≤◌, ◌<◌, arith, eqb, leb, ltb, get_or, take, replicate, IsSome, IsOk, is_ok, Option, Some, None, Result, Ok, Err}
use mathlib.Core.Bool.{false≢true}
use Rattle.block.specs.Tag.{tag-SMAP}
use Rattle.block.specs.Tree.{find_tag, is_at}
use Rattle.grid.specs.Strip.{pixel_over}
use Rattle.strip.specs.Picture.{Picture, refusal, picture, answer_of, Answered}
use Rattle.strip.specs.Strip.{Filled}
use Rattle.table.specs.Table.{table_right}
use Rattle.table.specs.Body.{rows_at, pixels_of}
use Rattle.table.specs.Test.{picture_test, strip_test, block_test}
use Rattle.table.proofs.TestLaws.{refused_stops}
use Rattle.table.proofs.BlockLaws.{not-passed, block-table, block-strip}
use Rattle.load.proofs.CellLaws.{at_size, drawn_pixels, zero_rows, read_row}
use Rattle.room.specs.declared.Room.{Room}
use Rattle.image.specs.Image.{object_count, state_block}
use Rattle.room.specs.Picture.{plane_in}
use Rattle.image.specs.Pixel.{clear_code, smap_of}
use Rattle.image.specs.Gathered.{Gathered}
use Rattle.image.proofs.GatherLaws.{gathered-width}
use Rattle.room.proofs.PictureLaws.{found-passes}
use Rattle.scene.specs.Painting.{covers}
use Rattle.scene.specs.declared.Entry.{Entry}
use Rattle.layers.specs.declared.Source.{Source}
use Rattle.layers.specs.Decoded.{decoded}
use Rattle.layers.specs.Layer.{none_clear}
use Rattle.layers.specs.Source.{Readable, PlanePasses, strip_in, mask_in, picture_over, picture_opaque}
use Rattle.layers.proofs.EveryLaws.{every_ext}

clear_is : (p : Picture) (clear : Bool) → Ok clear ≡ answer_of p → clear ≡ clear_code p
clear_is (refusal n) clear h = absurd (let z : ◌≡◌ {A = ℕ} 0 1 = cc in omega arith)
clear_is (picture t values) clear h = cc

module _ (s : List ℕ) (m : Source) (j : ℕ) (ok : Readable s m) (fits : j < m.strips) where
  pub strip-table : table_right false m.strips s m.smap m.smap_end ≡ true
  strip-table = block-table _ _ _ _ _ _ ok.smap-passes

  strip-passes : picture_test (strip_in s m j) ≡ Ok tt
  unfolding strip_test
  strip-passes = block-strip _ _ _ _ _ _ ok.smap-passes j fits

  -- the strip was read: no refusal is answered, and the buffer holds its pixels
  module _ (d e : List ℕ) (a : Result Bool ℕ) (read : Answered (strip_in s m j) d e a) where
    pub strip_read : IsOk a
    strip_read = go a refl
      where
        go : (b : Result Bool ℕ) → a ≡ b → is_ok b ≡ true
        go (Ok clear) is = refl
        go (Err n) is = absurd (not-passed n (refused_stops (strip_in s m j) n (sym read.0 ∙ is) ∙ strip-passes))

    module _ (clear : Bool) (is : a ≡ Ok clear) where
      code : clear ≡ clear_code (strip_in s m j)
      code = clear_is (strip_in s m j) clear (sym is ∙ read.0)

      value : (i : ℕ) → i < 8 * m.height → get_or e i 0 ≡ get_or (pixels_of (strip_in s m j)) i 0
      value i lt = drawn_pixels m.height (strip_in s m j) d e (at_size m.strips m.height s m.smap m.smap_end j) strip-passes read.1 i lt

      pub read_over : (index i o : ℕ) → i < 8 * m.height → pixel_over index clear (get_or e i 0) o ≡ picture_over index (strip_in s m j) i o
      unfolding picture_over
      read_over index i o lt = ap₂ (λ (t : Bool) (v : ℕ). pixel_over index t v o) code (value i lt)

      pub read_none_clear : (index : ℕ) → none_clear index clear e (8 * m.height) ≡ picture_opaque index (strip_in s m j) (8 * m.height)
      unfolding none_clear
      read_none_clear index = every_ext _ _ (8 * m.height) (λ i lt. ap₂ (λ (t : Bool) (v : ℕ). not (t && eqb v index)) code (value i lt))

-- rows of a plane that is there, and of one that isn't
module _ (s : List ℕ) (m : Source) (p j : ℕ) (fits : j < m.strips) (passes : PlanePasses s m p) where
  module _ (b z : ℕ) (at : Some (b, z) ≡ plane_in s m.payload m.payload_end p) where
    plane-block : block_test true m.strips m.height s b z ≡ Ok tt
    plane-block = found-passes m.strips m.height s m.payload m.payload_end p b z at passes

    pub plane-table : table_right true m.strips s b z ≡ true
    plane-table = block-table _ _ _ _ _ _ plane-block

    pub rows_read : (d e : List ℕ) (a : Result (Unit {0}) ℕ) → Filled m.height (rows_at m.strips m.height s b z j) d e a
        → (y : ℕ) → y < m.height → get_or e y 0 ≡ mask_in s m p j y
    rows_read d e a filled y lt = rw (← at) (read_row m.strips m.height s b z j d e a (block-strip _ _ _ _ _ _ plane-block j fits) filled y lt)

  pub rows_zero : None ≡ plane_in s m.payload m.payload_end p → (e : List ℕ) → take (0 + m.height) e ≡ replicate m.height 0
      → (y : ℕ) → y < m.height → get_or e y 0 ≡ mask_in s m p j y
  rows_zero none e filled y lt = rw (← none) (zero_rows m.height e filled y lt)

-- ---- an object's image
module _ (s : List ℕ) (o st : ℕ) (there : is_at (smap_of s (state_block s o st)) ≡ true) where
  pub state_there : (f : Option (ℕ × ℕ)) → f ≡ state_block s o st → IsSome f
  state_there (Some (b, z)) at = refl
  state_there None none = absurd (false≢true (rw (← none) at there))

  pub smap_there : (b z : ℕ) → Some (b, z) ≡ state_block s o st → (f : Option (ℕ × ℕ)) → f ≡ find_tag tag-SMAP s (b + 8) z → IsSome f
  smap_there b z at (Some (c, e)) found = refl
  smap_there b z at None none =
      let here : is_at (find_tag tag-SMAP s (b + 8) z) ≡ true = rw (← at) at there in
      absurd (false≢true (rw (← none) at here))

-- the strips that an entry's box covers, by its object's row of the table
pub covers_by : (s : List ℕ) (r : Room) (t : List ℕ) (e : Entry) (k : ℕ) → Gathered s t → 1 ≤ e.object → e.object ≤ object_count s
    → (leb (e.x / 8) k && ltb k (e.x / 8 + get_or t (8 * e.object + 3) 0 / 8)) ≡ covers (decoded s r) e k
unfolding covers decoded
covers_by s r t e k g one le = rw (gathered-width s t g e.object one le)
