-- Laws of what the code reads and keeps of two rooms: a strip's pixels and rows in its scratch, and the two tables. Assumes nothing.
use Rattle.std.proofs.Common.{ℕ, suc, ◌+◌, ◌*◌, ◌/◌, ◌%◌, ◌^◌, ◌≤◌, ◌<◌, ◌≡◌, refl, ap, ap₂, ◌∙◌, Bool, true, false, cond, not, List, add-one, arith, leb-true, eqb, leb, get_or, Option, Some, None, Result, Ok}
use Rattle.block.proofs.Laws.{nth_at}
use Rattle.strip.specs.Picture.{Answered}
use Rattle.strip.specs.Strip.{Filled}
use Rattle.table.specs.Table.{table_right}
use Rattle.table.specs.Body.{strip_at, rows_at, mask_at}
use Rattle.table.specs.Test.{block_test}
use Rattle.table.proofs.BlockLaws.{block-table, block-strip}
use Rattle.room.specs.Picture.{plane_in, found_mask, plane_found, plane_test}
use Rattle.room.specs.Test.{strips}
use Rattle.room.specs.declared.Room.{Room}
use Rattle.load.specs.Load.{background, mask}
use Rattle.load.proofs.LoadLaws.{background-passes, plane-passes}
use Rattle.load.proofs.CellLaws.{read_pixel, read_row}
use Rattle.compare.specs.Compare.{differing, strip_pixel, declared, Rooms, rooms, pixels_differing, plane_differs, planes_differing, most, difference_at, listed_to}
use Rattle.compare.specs.Tables.{Tested, Comparable, declared_in, Lies, Sure, found_differ, Counts, Marks, table_at}
use Rattle.compare.proofs.CountLaws.{differing-same}
use Rattle.compare.proofs.PlaceLaws.{listed_same}

-- ---- pixels

module _ (s : List ℕ) (r : Room) (n h : ℕ) (tested : Tested s r) (wide : n ≡ strips r) (high : h ≡ r.height) where
  block-right : block_test false n h s r.smap r.smap_end ≡ Ok tt
  block-right = rw (wide, high) (background-passes s r tested.passes)

  pub strip-table : table_right false n s r.smap r.smap_end ≡ true
  strip-table = block-table false n h s r.smap r.smap_end block-right

  pub strip_read : (k : ℕ) → k < n → (d e : List ℕ) (x : Result Bool ℕ) → Answered (strip_at n h s r.smap r.smap_end k) d e x
      → (j : ℕ) → j < 8 * h → get_or e j 0 ≡ strip_pixel s r k j
  unfolding background
  strip_read k lt d e x read j lj =
      let whole : 8 * (j / 8) + j % 8 ≡ j = omega arith in
      let passes = block-strip false n h s r.smap r.smap_end block-right k lt in
      rw (← wide, ← high) (rw whole at (read_pixel n h s r.smap r.smap_end k d e x passes read (j % 8) (j / 8) (omega arith) (omega arith)))

module _ (a : List ℕ) (ra : Room) (b : List ℕ) (rb : Room) (k : ℕ) where
  pub pixels_are : (f g : ℕ → ℕ) → ((j : ℕ) → j < 8 * ra.height → f j ≡ strip_pixel a ra k j) → ((j : ℕ) → j < 8 * ra.height → g j ≡ strip_pixel b rb k j)
      → differing f g (8 * ra.height) ≡ pixels_differing (rooms a ra b rb) k
  unfolding pixels_differing
  pixels_are f g left right = differing-same f g (strip_pixel a ra k) (strip_pixel b rb k) (8 * ra.height) left right

-- ---- planes

module _ (s : List ℕ) (r : Room) (n h : ℕ) (tested : Tested s r) (wide : n ≡ strips r) (high : h ≡ r.height) (p : ℕ) (first : 1 ≤ p) where
  in_room : (f : Option (ℕ × ℕ)) → f ≡ plane_in s r.image r.image_end p → Lies s f
  in_room (Some (b, z)) e =
      let place = nth_at _ _ _ _ _ _ _ e in
      (omega (arith, place), omega (arith, place, tested.sound.image_last))
  in_room None e = tt

  plane-right : p ≤ r.planes → plane_found n h s (plane_in s r.image r.image_end p) ≡ Ok tt
  unfolding plane_test
  plane-right le = rw (wide, high) (plane-passes s r tested.passes p first le)

  -- a declared plane lies in the room and passes; so does one that counts as missing
  pub declared_sure : Sure n h s (declared_in s r p)
  declared_sure = go (leb p r.planes) refl
    where
      go : (t : Bool) → leb p r.planes ≡ t → Sure n h s (cond t (plane_in s r.image r.image_end p) None)
      go true e = record { lies = in_room (plane_in s r.image r.image_end p) refl; passes = plane-right (leb-true p r.planes e) }
      go false e = record { lies = tt; passes = refl }

module _ (n h : ℕ) (s : List ℕ) (b z k : ℕ) (sure : Sure n h s (Some (b, z))) where
  pub rows_table : table_right true n s b z ≡ true
  rows_table = block-table true n h s b z sure.passes

  pub rows_read : k < n → (d e : List ℕ) (x : Result (Unit {0}) ℕ) → Filled h (rows_at n h s b z k) d e x
      → (y : ℕ) → y < h → get_or e y 0 ≡ mask_at n h s b z k y
  rows_read lt d e x filled y ly = read_row n h s b z k d e x (block-strip true n h s b z sure.passes k lt) filled y ly

-- an undeclared plane reads as zero
declared-found : (s : List ℕ) (r : Room) (n h p k y : ℕ) → n ≡ strips r → h ≡ r.height → found_mask n h s (declared_in s r p) k y ≡ declared s r p k y
unfolding declared mask
declared-found s r n h p k y wide high = rw (wide, high) (go (leb p r.planes))
  where
    go : (t : Bool) → found_mask (strips r) r.height s (cond t (plane_in s r.image r.image_end p) None) k y
        ≡ cond t (found_mask (strips r) r.height s (plane_in s r.image r.image_end p) k y) 0
    go true = refl
    go false = refl

module _ (a : List ℕ) (ra : Room) (b : List ℕ) (rb : Room) (ok : Comparable a ra b rb) where
  wide-b : strips ra ≡ strips rb
  wide-b = ap (λ (w : ℕ). w / 8) ok.width

  plane_is : (p k : ℕ) → found_differ (strips ra) ra.height a (declared_in a ra p) b (declared_in b rb p) k ≡ plane_differs (rooms a ra b rb) p k
  unfolding plane_differs
  plane_is p k =
      ap (λ (x : ℕ). not (eqb x 0))
      (differing-same _ _ (declared a ra p k) (declared b rb p k) ra.height
      (λ y l. declared-found a ra (strips ra) ra.height p k y refl refl)
      (λ y l. declared-found b rb (strips ra) ra.height p k y wide-b ok.height))

  -- one plane more in each strip
  pub marks-more : (q bit : ℕ) (f g : Option (ℕ × ℕ)) (old new : List ℕ) → f ≡ declared_in a ra (q + 1) → g ≡ declared_in b rb (q + 1) → bit ≡ 2 ^ q
      → Marks (rooms a ra b rb) q (strips ra) old
      → ((j : ℕ) → j < strips ra → get_or new j 0 ≡ get_or old j 0 + cond (found_differ (strips ra) ra.height a f b g j) bit 0)
      → Marks (rooms a ra b rb) (suc q) (strips ra) new
  unfolding planes_differing
  marks-more q bit f g old new ef eg eb was made k lt =
      made k lt
      ∙ ap₂ ◌+◌ (was k lt) (rw (ef, eg, eb, add-one q) (ap (λ (t : Bool). cond t (2 ^ q) 0) (plane_is (suc q) k)))

pub marks-start : (m : Rooms) (n : ℕ) (marks : List ℕ) → ((k : ℕ) → k < n → get_or marks k 0 ≡ 0) → Marks m 0 n marks
unfolding planes_differing
marks-start m n marks zeros = zeros

-- ---- the list, from the tables

pub tables_list : (m : Rooms) (n : ℕ) (counts marks : List ℕ) → Counts m n counts → Marks m (most m) n marks
    → listed_to (table_at counts marks) n ≡ listed_to (difference_at m) n
tables_list m n counts marks c p =
    listed_same (table_at counts marks) (difference_at m) n (λ k lt. λ i. record { strip = k; pixels = c k lt i; planes = p k lt i })
