-- The body of a strip, and what it reads to (document 01, "Strips of pixels", "Strips of masks"). Arguments as in Table.
use Rattle.std.specs.Prelude.{ℕ, zero, suc, ◌+◌, ◌-◌, ◌*◌, ◌/◌, ◌%◌, List, [], Bool, true, false, cond, get_or, take, drop, replicate, eqb}
use Rattle.strip.specs.Strip.{Strip, refused, values}
use Rattle.strip.specs.Picture.{Picture, refusal, picture, strip_of}
use Rattle.plane.specs.Mask.{rows_of, literals}
use Rattle.table.specs.Table.{offset_at}

-- the bytes of s in [a, e)
abbrev pub part : List ℕ → (a e : ℕ) → List ℕ
part s a e = take (e - a) (drop a s)

-- where a body that is followed by the m strips from strip k on ends: at the next offset that isn't 0, or at the block's end
unfoldable pub body_end : Bool → List ℕ → (b z k m : ℕ) → ℕ
body_end mask s b z k zero = z
body_end mask s b z k (suc m) =
    let offset = offset_at mask s b k in
    let later = body_end mask s b z (k + 1) m in
    cond (eqb offset 0) later (b + offset)

-- the body of strip k
unfoldable pub body_of : Bool → (n : ℕ) → List ℕ → (b z k : ℕ) → List ℕ
body_of mask n s b z k = part s (b + offset_at mask s b k) (body_end mask s b z (k + 1) (n - (k + 1)))

-- strip k of an SMAP block: its 8h pixels by rows, or the number of its refusal
unfoldable pub strip_at : (n h : ℕ) → List ℕ → (b z k : ℕ) → Picture
strip_at n h s b z k = strip_of h (body_of false n s b z k)

-- strip k of a ZP block: its h rows, or the number of its refusal; offset 0 means all rows zero
unfoldable pub rows_at : (n h : ℕ) → List ℕ → (b z k : ℕ) → Strip
rows_at n h s b z k = cond (eqb (offset_at true s b k) 0) (values (replicate h 0)) (rows_of (body_of true n s b z k) h (literals 0))

-- what was read: no pixels and no rows where it is refused
abbrev pub pixels_of : Picture → List ℕ
pixels_of (refusal number) = []
pixels_of (picture clear pixels) = pixels

abbrev pub row_values : Strip → List ℕ
row_values (refused number) = []
row_values (values rows) = rows

-- the pixel in column x, row y of an SMAP block of n strips
unfoldable pub pixel_at : (n h : ℕ) → List ℕ → (b z x y : ℕ) → ℕ
pixel_at n h s b z x y = get_or (pixels_of (strip_at n h s b z (x / 8))) (8 * y + x % 8) 0

-- the mask byte of strip k, row y of a ZP block of n strips
unfoldable pub mask_at : (n h : ℕ) → List ℕ → (b z k y : ℕ) → ℕ
mask_at n h s b z k y = get_or (row_values (rows_at n h s b z k)) y 0
