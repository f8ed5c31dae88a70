-- The table of a room's objects: 8 numbers for each, those of object o from 8 * o on. It is made in one walk over ROOM's blocks for the
-- objects and one for their images, and then serves every question about an image.
use Rattle.std.specs.Prelude.{ℕ, ◌+◌, ◌*◌, ◌≤◌, ◌<◌, ◌≡◌, List, [], ◌∷◌, Bool, ◌&&◌, cond, length, get_or, eqb, Option, Some, None}
use Rattle.block.specs.Tag.{tag-OBIM}
use Rattle.block.specs.Tree.{tagged}
use Rattle.objects.specs.Object.{object_block}
use Rattle.image.specs.Image.{object_count, object_id, field, imhd_of, has_id, first_of, image_block}

-- an OBIM's payload; 0 and 0 where there is none
abbrev pub start_of : Option (ℕ × ℕ) → ℕ
start_of (Some (b, z)) = b + 8
start_of None = 0

abbrev pub end_of : Option (ℕ × ℕ) → ℕ
end_of (Some (b, z)) = z
end_of None = 0

-- the row of an object with this id, whose OBIM has this IMHD and this payload: id, x, y, width, height, numImages, and the payload
abbrev pub row_from : List ℕ → ℕ → Option (ℕ × ℕ) → (start end : ℕ) → List ℕ
row_from s id imhd start end =
    id ∷ field s 8 imhd ∷ field s 10 imhd ∷ field s 12 imhd ∷ field s 14 imhd ∷ field s 2 imhd ∷ start ∷ end ∷ []

-- the row of an object with this id and this OBIM
abbrev pub row_with : List ℕ → ℕ → Option (ℕ × ℕ) → List ℕ
row_with s id f = row_from s id (imhd_of s f) (start_of f) (end_of f)

-- row o of the table t is the row of an object with this id and this OBIM
abbrev pub HasRow : (s t : List ℕ) (o id : ℕ) → Option (ℕ × ℕ) → Type 0
HasRow s t o id f = (c : ℕ) → c < 8 → get_or t (8 * o + c) 0 ≡ get_or (row_with s id f) c 0

-- the table holds every object's row
pub record Gathered (s t : List ℕ) : Type 0 where
  pub small : length s ≤ 1048576
  pub few : object_count s ≤ 128
  pub long : 1032 ≤ length t
  pub row : (o : ℕ) → 1 ≤ o → o ≤ object_count s → HasRow s t o (object_id s o) (image_block s o)

-- What the inner functions do to a table t, which becomes t'.

-- row o is put
pub record RowPut (t t' : List ℕ) (o : ℕ) (row : List ℕ) : Type 0 where
  pub same : length t' ≡ length t
  pub new : (c : ℕ) → c < 8 → get_or t' (8 * o + c) 0 ≡ get_or row c 0
  pub old : (q c : ℕ) → (q ≡ o → ⊥) → c < 8 → get_or t' (8 * q + c) 0 ≡ get_or t (8 * q + c) 0

-- every object's row is put: what `row` makes of its block
pub record Filled (s : List ℕ) (row : Option (ℕ × ℕ) → List ℕ) (t t' : List ℕ) : Type 0 where
  pub same : length t' ≡ length t
  pub new : (o : ℕ) → 1 ≤ o → o ≤ object_count s → (c : ℕ) → c < 8 → get_or t' (8 * o + c) 0 ≡ get_or (row (object_block s o)) c 0

-- object o has the row's id, and no image yet
abbrev pub takes : (row t : List ℕ) (o : ℕ) → Bool
takes row t o = eqb (get_or row 0 0) (get_or t (8 * o) 0) && eqb (get_or t (8 * o + 6) 0) 0

-- a row is put for each object that takes it
pub record RowOffered (t t' : List ℕ) (objects : ℕ) (row : List ℕ) : Type 0 where
  pub same : length t' ≡ length t
  pub new : (o c : ℕ) → 1 ≤ o → o ≤ objects → c < 8 → get_or t' (8 * o + c) 0 ≡ cond (takes row t o) (get_or row c 0) (get_or t (8 * o + c) 0)

-- the OBIM f is put for each object of its id that has no image yet
pub record Offered (s t t' : List ℕ) (objects : ℕ) (f : Option (ℕ × ℕ)) : Type 0 where
  pub same : length t' ≡ length t
  pub new : (o c : ℕ) → 1 ≤ o → o ≤ objects → c < 8
      → get_or t' (8 * o + c) 0
      ≡ cond (has_id s (get_or t (8 * o) 0) f && eqb (get_or t (8 * o + 6) 0) 0) (get_or (row_with s (get_or t (8 * o) 0) f) c 0) (get_or t (8 * o + c) 0)

-- the first OBIM of its id, if any, is put for each object that had none
pub record Paired (s t t' : List ℕ) (objects : ℕ) : Type 0 where
  pub same : length t' ≡ length t
  pub new : (o id : ℕ) → 1 ≤ o → o ≤ objects → HasRow s t o id None
      → HasRow s t' o id (first_of (has_id s id) (tagged tag-OBIM s 8 (length s)))
