-- What a call with a whole cast answers, and what it leaves (change request 7). Sizes and the single stamp are crate actor's.
use Rattle.std.specs.Prelude.{cond, ◌&&◌, List, [], ◌∷◌, ℕ, ◌+◌, ◌*◌, leb, ltb, eqb, length, drop}
use Rattle.actor.specs.Sizes.{sizes_fit, picture_fits, mask_bytes}
use Rattle.actor.specs.Stamp.{stamp_frame}
use Rattle.cast.specs.declared.Actor.{Actor}
use Rattle.cast.specs.Sort.{sort_of}

-- "its size (3) before its buffer (4)": a record's own number, with a buffer of so many bytes of pictures
unfoldable pub record_number : (pictures : ℕ) → Actor → ℕ
record_number pictures a =
    cond (picture_fits a.width a.height) (cond (leb (a.start + a.width * a.height) pictures) 0 4) 3

-- "those of the first bad record in the list as handed in"; 0 where there is none
unfoldable pub first_bad : (pictures : ℕ) → List Actor → ℕ
first_bad pictures [] = 0
first_bad pictures (a ∷ l) = cond (eqb (record_number pictures a) 0) (first_bad pictures l) (record_number pictures a)

-- "3 and 4 for frame and planes"
unfoldable pub frame_number : (frame masks w h n : ℕ) → ℕ
frame_number frame masks w h n = cond (sizes_fit w h n) (cond (leb (w * h) frame && leb (mask_bytes w h n) masks) 0 4) 3

-- "18 for more than 32 records, then 3 and 4 for frame and planes, then those of the first bad record"
unfoldable pub cast_number : List Actor → (frame masks pictures w h n : ℕ) → ℕ
cast_number l frame masks pictures w h n =
    cond (ltb 32 (length l)) 18 (cond (eqb (frame_number frame masks w h n) 0) (first_bad pictures l) (frame_number frame masks w h n))

-- of lent bytes
abbrev pub number_in : List Actor → (frame masks pictures : List ℕ) (w h n : ℕ) → ℕ
number_in l frame masks pictures w h n = cast_number l (length frame) (length masks) (length pictures) w h n

-- the single stamps one by one, in the order of the list
unfoldable pub stamp_all : (masks pictures : List ℕ) (w h n clear : ℕ) → List Actor → List ℕ → List ℕ
stamp_all masks pictures w h n clear [] frame = frame
stamp_all masks pictures w h n clear (a ∷ l) frame =
    stamp_all masks pictures w h n clear l
    (stamp_frame frame masks (drop a.start pictures) w h n a.width a.height clear a.left a.top a.clip)

-- the list after a call: in painting order, or as it was where the call is refused
unfoldable pub cast_list : ℕ → List Actor → List Actor
cast_list number l = cond (eqb number 0) (sort_of l) l

-- and the frame: stamped with the list in that order
unfoldable pub cast_frame : ℕ → (masks pictures : List ℕ) (w h n clear : ℕ) → List Actor → List ℕ → List ℕ
cast_frame number masks pictures w h n clear l frame = cond (eqb number 0) (stamp_all masks pictures w h n clear (sort_of l) frame) frame
