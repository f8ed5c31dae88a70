-- The sizes that a call on an actor may be given, and the lengths of its lent buffers (document 01, "Sizes"). Assumes nothing.
use Rattle.std.specs.Prelude.{Bool, ◌&&◌, ◌≡◌, ℕ, ◌*◌, ◌/◌, ◌%◌, ◌≤◌, leb, eqb}

-- width w a multiple of 8, 8 to 1,024; height h 1 to 200; planes n 0 to 4
unfoldable pub sizes_fit : (w h n : ℕ) → Bool
sizes_fit w h n = leb 8 w && leb w 1024 && eqb (w % 8) 0 && leb 1 h && leb h 200 && leb n 4

-- an actor picture is 1 to 128 wide, 1 to 200 high
unfoldable pub picture_fits : (width height : ℕ) → Bool
picture_fits width height = leb 1 width && leb width 128 && leb 1 height && leb height 200

-- masks: N × S × H bytes, where S = W / 8
abbrev pub mask_bytes : (w h n : ℕ) → ℕ
mask_bytes w h n = n * (w / 8) * h

-- a frame of w by h, the masks and a picture are not longer than the buffers lent for them
unfoldable pub buffers_fit : (frame masks picture w h n width height : ℕ) → Bool
buffers_fit frame masks picture w h n width height = leb (w * h) frame && leb (mask_bytes w h n) masks && leb (width * height) picture

-- ---- for the proofs: no public promise rests on what follows

-- n planes for a room of w by h stand in len bytes; what the tests above leave for the code that reads the masks
pub record Planes (len w h n : ℕ) : Type 0 where
  pub wide : w ≤ 1024
  pub whole : w % 8 ≡ 0
  pub high : h ≤ 200
  pub few : n ≤ 4
  pub room : w / 8 * (n * h) ≤ len
