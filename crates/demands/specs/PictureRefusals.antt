-- Refusals 5 to 8 in document 01's words ("Numbered refusals"): the first bad block of a picture, "with 5 first and then 6 to 8 at its leftmost bad
-- strip, at that strip's first bad operation". A picture is a room's background or an object's image.
use Rattle.std.specs.Prelude.{ℕ, zero, suc, ◌+◌, ◌-◌, ◌*◌, ◌≤◌, ◌<◌, ◌≡◌, Bool, true, false, cond, List, ◌⊎◌, ltb, length, get_or, drop, Option, Some, None, Result, Ok}
use Rattle.bits.specs.Bits.{bits_of}
use Rattle.strip.specs.Strip.{refuse, go, op_of}
use Rattle.strip.specs.Picture.{kind_of}
use Rattle.strip.specs.declared.Kind.TheVariants.{Raw, Coded, Unknown}
use Rattle.plane.specs.Mask.{rows_in}
use Rattle.table.specs.Table.{offset_at, bodiless, table_right}
use Rattle.table.specs.Body.{body_of}
use Rattle.table.specs.Test.{strip_test, block_test}
use Rattle.room.specs.Picture.{plane_in}
use Rattle.room.specs.Test.{strips}
use Rattle.room.specs.declared.Room.{Room}

-- ---- a strip of pixels of h rows

-- the operations before a place are whole: k pixels are still to come there, the colour is c, the step st, and the bits l are left. Pixel 0 is the
-- first colour; an operation gives a pixel and so many more
pub data Reached (second : Bool) (w h : ℕ) (body : List ℕ) : (k c st : ℕ) → List Bool → Type 0 where
  first : Reached second w h body (8 * h - 1) (get_or body 1 0) 1 (bits_of (drop 2 body))
  next : {k c st more c' st' : ℕ} {l l' : List Bool} → Reached second w h body (suc (more + k)) c st l → op_of second w c st l ≡ go more c' st' l'
      → Reached second w h body k c' st' l'

-- at a place where a pixel is still to come, the operation's bits aren't all there
abbrev pub BitsRunOut : Bool → (w h : ℕ) → List ℕ → Type 0
BitsRunOut second w h body =
    (k : ℕ) × (c : ℕ) × (st : ℕ) × (l : List Bool) × Reached second w h body k c st l × (1 ≤ k) × (op_of second w c st l ≡ refuse 7)

-- at a place where k pixels are still to come, the operation gives more than k
abbrev pub TooManyPixels : Bool → (w h : ℕ) → List ℕ → Type 0
TooManyPixels second w h body =
    (k : ℕ) × (c : ℕ) × (st : ℕ) × (l : List Bool) × Reached second w h body k c st l × (1 ≤ k)
    × ((more : ℕ) × (c' : ℕ) × (st' : ℕ) × (l' : List Bool) × (op_of second w c st l ≡ go more c' st' l') × (k < 1 + more))

-- the body's code is one of the first method (false) or the second (true), with w bits to an index
abbrev pub Method : List ℕ → Bool → ℕ → Type 0
Method body second w = (vertical : Bool) × (clear : Bool) × (kind_of (get_or body 0 0) ≡ Coded second vertical clear w)

-- ---- a strip of masks of h rows

-- how many bytes an operation byte needs behind it (`rows_in`: how many rows it gives)
abbrev pub bytes_needed : ℕ → ℕ
bytes_needed op = cond (ltb op 0x80) op 1

-- the operations before the body's byte `at` are whole, and k rows are still to come there
pub data RowsReached (h : ℕ) (body : List ℕ) : (k at : ℕ) → Type 0 where
  first : RowsReached h body h 0
  next : {k at : ℕ} → RowsReached h body k at → 1 ≤ k → rows_in (get_or body at 0) ≤ k → at + 1 + bytes_needed (get_or body at 0) ≤ length body
      → RowsReached h body (k - rows_in (get_or body at 0)) (at + 1 + bytes_needed (get_or body at 0))

-- at a place where a row is still to come there is no operation byte; or it doesn't pass the end, and a byte that it needs is missing
abbrev pub RowBytesRunOut : ℕ → List ℕ → Type 0
RowBytesRunOut h body =
    (k : ℕ) × (at : ℕ) × RowsReached h body k at × (1 ≤ k)
    × ((length body ≤ at) ⊎ ((rows_in (get_or body at 0) ≤ k) × (length body < at + 1 + bytes_needed (get_or body at 0))))

-- at a place where k rows are still to come, the operation gives more than k
abbrev pub TooManyRows : ℕ → List ℕ → Type 0
TooManyRows h body = (k : ℕ) × (at : ℕ) × RowsReached h body k at × (1 ≤ k) × (at < length body) × (k < rows_in (get_or body at 0))

-- ---- a strip's body: false for pixels, true for masks

-- 6: unknown strip code
abbrev pub UnknownCode : Bool → ℕ → List ℕ → Type 0
UnknownCode false h body = (1 ≤ length body) × (kind_of (get_or body 0 0) ≡ Unknown)
UnknownCode true h body = ⊥

-- 7: strip bytes run out. There is no code; or fewer than 8H bytes behind a raw code; or no colour behind another, or an operation is cut
abbrev pub BytesRunOut : Bool → ℕ → List ℕ → Type 0
BytesRunOut false h body =
    (length body < 1)
    ⊎ ((kind_of (get_or body 0 0) ≡ Raw) × (length body < 1 + 8 * h))
    ⊎ ((second : Bool) × (w : ℕ) × Method body second w × ((length body < 2) ⊎ BitsRunOut second w h body))
BytesRunOut true h body = RowBytesRunOut h body

-- 8: an operation passes the end of the strip
abbrev pub PassesEnd : Bool → ℕ → List ℕ → Type 0
PassesEnd false h body = (second : Bool) × (w : ℕ) × Method body second w × (2 ≤ length body) × TooManyPixels second w h body
PassesEnd true h body = TooManyRows h body

-- what is wrong with a strip that is refused with r
abbrev pub StripFault : Bool → ℕ → List ℕ → ℕ → Type 0
StripFault mask h body r = ((r ≡ 6) × UnknownCode mask h body) ⊎ ((r ≡ 7) × BytesRunOut mask h body) ⊎ ((r ≡ 8) × PassesEnd mask h body)

-- ---- a block in [b, z) with n strips of h rows

-- its table is right, P holds of the body of its strip k, and the strips left of that pass
abbrev pub Leftmost : Bool → (n h : ℕ) → List ℕ → (b z : ℕ) → (Bool → ℕ → List ℕ → Type 0) → Type 0
Leftmost mask n h s b z P =
    (table_right mask n s b z ≡ true)
    × ((k : ℕ) × (k < n) × ((j : ℕ) → j < k → strip_test mask n h s b z j ≡ Ok tt) × (bodiless mask (offset_at mask s b k) ≡ false)
    × P mask h (body_of mask n s b z k))

-- what is wrong with a block that is refused with r: 5 first
abbrev pub BlockFault : Bool → (n h : ℕ) → List ℕ → (b z r : ℕ) → Type 0
BlockFault mask n h s b z r = ((r ≡ 5) × (table_right mask n s b z ≡ false)) ⊎ Leftmost mask n h s b z (λ m rows body. StripFault m rows body r)

-- ---- a picture: so many planes and strips, the height, the payload [start, end) of its IM block, and the place of its SMAP block
pub record Picture : Type 0 where
  pub planes : ℕ
  pub width : ℕ
  pub height : ℕ
  pub start : ℕ
  pub end : ℕ
  pub smap : ℕ
  pub last : ℕ

-- its blocks in their order: SMAP is block 0, plane i block i
abbrev pub is_plane : ℕ → Bool
is_plane zero = false
is_plane (suc k) = true

abbrev pub block_at : List ℕ → Picture → ℕ → Option (ℕ × ℕ)
block_at s p zero = Some (p.smap, p.last)
block_at s p (suc k) = plane_in s p.start p.end (suc k)

-- a missing plane passes
abbrev pub found_test : Bool → (n h : ℕ) → List ℕ → Option (ℕ × ℕ) → Result (Unit {0}) ℕ
found_test mask n h s (Some (b, z)) = block_test mask n h s b z
found_test mask n h s None = Ok tt

unfoldable pub picture_test : List ℕ → Picture → ℕ → Result (Unit {0}) ℕ
picture_test s p i = found_test (is_plane i) p.width p.height s (block_at s p i)

-- none of 5 to 8 is given
abbrev pub AllPass : List ℕ → Picture → Type 0
AllPass s p = (i : ℕ) → i ≤ p.planes → picture_test s p i ≡ Ok tt

-- P holds of block i, which stands in [b, z), and the blocks before it pass
abbrev pub AtBlock : List ℕ → Picture → (Bool → (b z : ℕ) → Type 0) → Type 0
AtBlock s p P =
    (i : ℕ) × (b : ℕ) × (z : ℕ) × (i ≤ p.planes) × ((j : ℕ) → j < i → picture_test s p j ≡ Ok tt) × (block_at s p i ≡ Some (b, z)) × P (is_plane i) b z

-- and P holds of its leftmost bad strip
abbrev pub AtStrip : List ℕ → Picture → (Bool → ℕ → List ℕ → Type 0) → Type 0
AtStrip s p P = AtBlock s p λ mask b z. Leftmost mask p.width p.height s b z P

-- 5: a strip table doesn't fit its block, or an offset is wrong
abbrev pub TableWrong : List ℕ → Picture → Type 0
TableWrong s p = AtBlock s p λ mask b z. table_right mask p.width s b z ≡ false

-- a room's background and planes
abbrev pub picture_of : Room → Picture
picture_of r =
    record {
      planes = r.planes;
      width = strips r;
      height = r.height;
      start = r.image;
      end = r.image_end;
      smap = r.smap;
      last = r.smap_end;
    }
