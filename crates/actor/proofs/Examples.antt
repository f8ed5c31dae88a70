-- Small rooms and pictures worked out, so that the definitions are seen at work. Assumes nothing.
use Rattle.std.proofs.Common.{◌≡◌, refl, true, false, [], ◌∷◌}
use lib.IntN.{pos, negsuc}
use Rattle.grid.specs.Grid.{upd}
use Rattle.actor.specs.Sizes.{sizes_fit, picture_fits, buffers_fit}
use Rattle.actor.specs.Hidden.{mask_bit, hidden_at, hidden_number}
use Rattle.actor.specs.Stamp.{blended, stamped, stamp_number, stamp_frame}

-- bit 7 is the leftmost pixel: a room of 16 by 1 with one plane
left-most : (hidden_at (0x80 ∷ 0x01 ∷ []) 16 1 1 1 0 0 ≡ true) × (hidden_at (0x80 ∷ 0x01 ∷ []) 16 1 1 1 7 0 ≡ false)
    × (hidden_at (0x80 ∷ 0x01 ∷ []) 16 1 1 1 8 0 ≡ false) × (hidden_at (0x80 ∷ 0x01 ∷ []) 16 1 1 1 15 0 ≡ true)
unfolding hidden_at mask_bit
left-most = (refl, refl, refl, refl)

-- the clip level's own plane: of two planes of 8 by 1 only the first has bits; clip levels 0 to 3
own-plane : (hidden_at (0xFF ∷ 0x00 ∷ []) 8 1 2 0 3 0 ≡ false) × (hidden_at (0xFF ∷ 0x00 ∷ []) 8 1 2 1 3 0 ≡ true)
    × (hidden_at (0xFF ∷ 0x00 ∷ []) 8 1 2 2 3 0 ≡ false) × (hidden_at (0xFF ∷ 0x00 ∷ []) 8 1 2 3 3 0 ≡ false)
unfolding hidden_at mask_bit
own-plane = (refl, refl, refl, refl)

-- 3, then 4, then 14: by the length of the masks, in a room of 8 by 2 with one plane (two mask bytes)
numbers : (hidden_number 0 9 2 1 8 0 ≡ 3) × (hidden_number 1 8 2 1 8 0 ≡ 4) × (hidden_number 2 8 2 1 8 0 ≡ 14) × (hidden_number 2 8 2 1 7 2 ≡ 14)
    × (hidden_number 2 8 2 1 7 1 ≡ 0)
unfolding hidden_number sizes_fit
numbers = (refl, refl, refl, refl, refl)

-- a picture of 3 by 1 over the left edge of a frame of 8 by 1: column 0 is at -1, column 1 is clear, column 2 is at 1; the ninth byte is past the frame
over-left : stamp_frame (0 ∷ 0 ∷ 0 ∷ 0 ∷ 0 ∷ 0 ∷ 0 ∷ 0 ∷ 9 ∷ []) [] (5 ∷ 255 ∷ 6 ∷ []) 8 1 0 3 1 255 (negsuc 0) (pos 0) 0
    ≡ 0 ∷ 6 ∷ 0 ∷ 0 ∷ 0 ∷ 0 ∷ 0 ∷ 0 ∷ 9 ∷ []
unfolding stamp_frame stamp_number sizes_fit picture_fits buffers_fit upd stamped blended hidden_at mask_bit
over-left = refl

-- over the right edge, behind plane 1, which hides column 6
over-right : stamp_frame (0 ∷ 0 ∷ 0 ∷ 0 ∷ 0 ∷ 0 ∷ 0 ∷ 0 ∷ 9 ∷ []) (0x02 ∷ []) (5 ∷ 6 ∷ 7 ∷ 8 ∷ []) 8 1 1 4 1 255 (pos 5) (pos 0) 1
    ≡ 0 ∷ 0 ∷ 0 ∷ 0 ∷ 0 ∷ 5 ∷ 0 ∷ 7 ∷ 9 ∷ []
unfolding stamp_frame stamp_number sizes_fit picture_fits buffers_fit upd stamped blended hidden_at mask_bit
over-right = refl

-- the greatest and the least corner: nothing is in the frame
far_off : (stamp_frame (1 ∷ 2 ∷ 3 ∷ 4 ∷ 5 ∷ 6 ∷ 7 ∷ 8 ∷ []) [] (5 ∷ 6 ∷ []) 8 1 0 2 1 255 (pos 2147483647) (pos 0) 0 ≡ 1 ∷ 2 ∷ 3 ∷ 4 ∷ 5 ∷ 6 ∷ 7 ∷ 8 ∷ [])
    × (stamp_frame (1 ∷ 2 ∷ 3 ∷ 4 ∷ 5 ∷ 6 ∷ 7 ∷ 8 ∷ []) [] (5 ∷ 6 ∷ []) 8 1 0 2 1 255 (pos 0) (negsuc 2147483647) 0 ≡ 1 ∷ 2 ∷ 3 ∷ 4 ∷ 5 ∷ 6 ∷ 7 ∷ 8 ∷ [])
unfolding stamp_frame stamp_number sizes_fit picture_fits buffers_fit upd stamped blended hidden_at mask_bit
far_off = (refl, refl)
