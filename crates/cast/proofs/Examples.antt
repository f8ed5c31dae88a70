-- A cast of four worked out, byte for byte, and each refusal (change request 7). The room has 8 by 2 pixels and one plane, whose bits hide (0, 0), (1, 0)
-- and (3, 1) from those behind it; the transparent index is 7. Assumes nothing.
use Rattle.std.proofs.Common.{◌≡◌, refl, List, [], ◌∷◌, ℕ, replicate}
use lib.IntN.{ℤ, pos, negsuc}
use Rattle.grid.specs.Grid.{upd}
use Rattle.actor.specs.Sizes.{sizes_fit, picture_fits, buffers_fit}
use Rattle.actor.specs.Hidden.{mask_bit, hidden_at}
use Rattle.actor.specs.Stamp.{blended, stamped, stamp_number, stamp_frame}
use Rattle.cast.specs.declared.Actor.{Actor}
use Rattle.cast.specs.Order.{before_of}
use Rattle.cast.specs.Sort.{insert_of, sort_of}
use Rattle.cast.specs.Call.{record_number, first_bad, frame_number, cast_number, number_in, stamp_all, cast_list, cast_frame}

-- six bytes of a picture of 3 by 2, four of 2 by 2 with a clear one, three of 3 by 1 with a 255, four of 2 by 2
abbrev pictures : List ℕ
pictures = 11 ∷ 12 ∷ 13 ∷ 14 ∷ 15 ∷ 16 ∷ 21 ∷ 22 ∷ 7 ∷ 24 ∷ 255 ∷ 32 ∷ 33 ∷ 41 ∷ 42 ∷ 43 ∷ 44 ∷ []

abbrev masks : List ℕ
masks = 0xC0 ∷ 0x10 ∷ []

-- the room's 16 bytes, and two past it
abbrev frame : List ℕ
frame = 0 ∷ 0 ∷ 0 ∷ 0 ∷ 0 ∷ 0 ∷ 0 ∷ 0 ∷ 1 ∷ 1 ∷ 1 ∷ 1 ∷ 1 ∷ 1 ∷ 1 ∷ 1 ∷ 98 ∷ 99 ∷ []

-- two with one y, above 0, and two with one y, below 0, and one id
abbrev high_id : Actor
high_id = record { id = 4294967295; y = pos 5; left = pos 4; top = pos 1; width = 2; height = 2; clip = 2; start = 13 }

abbrev low_id : Actor
low_id = record { id = 1; y = pos 5; left = pos 2; top = pos 1; width = 3; height = 1; clip = 1; start = 10 }

abbrev first : Actor
first = record { id = 3; y = negsuc 1; left = negsuc 0; top = pos 0; width = 3; height = 2; clip = 0; start = 0 }

abbrev second : Actor
second = record { id = 3; y = negsuc 1; left = pos 1; top = pos 0; width = 2; height = 2; clip = 0; start = 6 }

abbrev handed_in : List Actor
handed_in = high_id ∷ first ∷ low_id ∷ second ∷ []

-- smaller y first, lower id first at equal y, and the two with one y and one id as they came
list-after : cast_list (number_in handed_in frame masks pictures 8 2 1) handed_in ≡ first ∷ second ∷ low_id ∷ high_id ∷ []
unfolding cast_number frame_number first_bad record_number sizes_fit picture_fits cast_list sort_of insert_of before_of
list-after = refl

-- `first` stands over the left edge; `second` covers its 13 and shows its 16 through the clear pixel; `low_id` covers 24 by its 255, and its 32 is behind the
-- plane; `high_id` covers 33, names no plane, and its second row is below the room
frame-after : cast_frame (number_in handed_in frame masks pictures 8 2 1) masks pictures 8 2 1 7 handed_in frame
    ≡ 12 ∷ 21 ∷ 22 ∷ 0 ∷ 0 ∷ 0 ∷ 0 ∷ 0 ∷ 15 ∷ 16 ∷ 255 ∷ 1 ∷ 41 ∷ 42 ∷ 1 ∷ 1 ∷ 98 ∷ 99 ∷ []
unfolding cast_number frame_number first_bad record_number sizes_fit picture_fits cast_frame sort_of insert_of before_of stamp_all stamp_frame stamp_number
    buffers_fit upd stamped blended hidden_at mask_bit
frame-after = refl

-- ---- refusals

-- 32 records and 33, whatever else is wrong
count : (number_in (replicate 32 first) frame masks pictures 8 2 1 ≡ 0) × (number_in (replicate 33 first) frame masks pictures 8 2 1 ≡ 18)
    × (number_in (replicate 33 first) [] [] [] 9 0 5 ≡ 18)
unfolding cast_number frame_number first_bad record_number sizes_fit picture_fits
count = (refl, refl, refl)

-- the room's sizes, before any length; a frame and masks that are one byte short, before any record; also with no record at all
abbrev short_frame : List ℕ
short_frame = replicate 15 0

of_frame : (number_in handed_in [] [] [] 9 2 1 ≡ 3) × (number_in handed_in short_frame masks [] 8 2 1 ≡ 4) × (number_in handed_in frame (0 ∷ []) [] 8 2 1 ≡ 4)
    × (number_in [] [] [] [] 8 0 1 ≡ 3) × (number_in [] short_frame masks [] 8 2 1 ≡ 4) × (number_in [] frame (0 ∷ []) [] 8 2 1 ≡ 4)
    × (number_in [] frame masks [] 8 2 1 ≡ 0)
unfolding cast_number frame_number first_bad record_number sizes_fit picture_fits
of_frame = (refl, refl, refl, refl, refl, refl, refl)

-- a record of which nothing is wrong but what is said: its picture of 2 by 2 ends at the buffer's end or passes it, or has no width, or both
abbrev placed : ℤ → (width start : ℕ) → Actor
placed y width start = record { id = 0; y = y; left = pos 0; top = pos 0; width = width; height = 2; clip = 0; start = start }

abbrev number : List Actor → ℕ
number l = number_in l frame masks pictures 8 2 1

of_record : (number (placed (pos 0) 2 13 ∷ []) ≡ 0) × (number (placed (pos 0) 2 14 ∷ []) ≡ 4) × (number (placed (pos 0) 129 13 ∷ []) ≡ 3)
    × (number (placed (pos 0) 129 17 ∷ []) ≡ 3) × (number (placed (pos 0) 2 4294967295 ∷ []) ≡ 4)
unfolding cast_number frame_number first_bad record_number sizes_fit picture_fits
of_record = (refl, refl, refl, refl, refl)

-- the first bad record has its way, whichever number it has; and it is the first as handed in, also where the sort would put it behind the other
first-bad : (number (first ∷ placed (pos 0) 2 14 ∷ placed (pos 1) 0 0 ∷ []) ≡ 4) × (number (first ∷ placed (pos 0) 0 0 ∷ placed (pos 1) 2 14 ∷ []) ≡ 3)
    × (number (placed (pos 1) 2 14 ∷ placed (pos 0) 0 0 ∷ []) ≡ 4) × (number (placed (pos 1) 0 0 ∷ placed (pos 0) 2 14 ∷ []) ≡ 3)
unfolding cast_number frame_number first_bad record_number sizes_fit picture_fits
first-bad = (refl, refl, refl, refl)

-- a refused list isn't put in order, and the frame stays
refused_stays : (cast_list (number (placed (pos 1) 2 14 ∷ first ∷ [])) (placed (pos 1) 2 14 ∷ first ∷ []) ≡ placed (pos 1) 2 14 ∷ first ∷ [])
    × (cast_frame (number (placed (pos 1) 2 14 ∷ first ∷ [])) masks pictures 8 2 1 7 (placed (pos 1) 2 14 ∷ first ∷ []) frame ≡ frame)
unfolding cast_number frame_number first_bad record_number sizes_fit picture_fits cast_list cast_frame
refused_stays = (refl, refl)
