-- Which pixels a clip level hides (document 01, "Actors, points, limbs" and "Sizes"; demand 2), and the call that asks it. Assumes nothing.
use Rattle.std.specs.Prelude.{Bool, false, ◌&&◌, cond, List, ℕ, ◌+◌, ◌-◌, ◌*◌, ◌/◌, ◌%◌, ◌^◌, leb, ltb, eqb, length, get_or, Result, Ok, Err}
use Rattle.actor.specs.Sizes.{sizes_fit, mask_bytes}

-- where the masks have plane k, strip s, row y of a room of w by h
abbrev pub mask_place : (w h k s y : ℕ) → ℕ
mask_place w h k s y = ((k - 1) * h + y) * (w / 8) + s

-- the bit of plane k at (x, y): bit 7 of a mask byte is the leftmost pixel
unfoldable pub mask_bit : List ℕ → (w h k x y : ℕ) → ℕ
mask_bit masks w h k x y = get_or masks (mask_place w h k (x / 8) y) 0 / 2 ^ (7 - x % 8) % 2

-- the pixel (x, y) is hidden: the clip level names a plane of the room, and that plane's bit is set there
unfoldable pub hidden_at : List ℕ → (w h n clip x y : ℕ) → Bool
hidden_at masks w h n clip x y = leb 1 clip && (leb clip n && eqb (mask_bit masks w h clip x y) 1)

-- the number of the question: sizes, then the length of the masks, then a point of the room, whatever the clip level
unfoldable pub hidden_number : (masks w h n x y : ℕ) → ℕ
hidden_number masks w h n x y = cond (sizes_fit w h n) (cond (leb (mask_bytes w h n) masks) (cond (ltb x w && ltb y h) 0 14) 4) 3

-- document 01's number for each case of an answer: hidden or not, the question is accepted
abbrev pub number : Result Bool ℕ → ℕ
number (Err n) = n
number (Ok is) = 0

-- whether an answer says that the pixel is hidden
abbrev pub hides : Result Bool ℕ → Bool
hides (Err n) = false
hides (Ok is) = is

-- and its value: 1 where it says so, else 0
abbrev pub value : Result Bool ℕ → ℕ
value a = cond (hides a) 1 0

-- the answer of number n where the pixel is hidden or not
unfoldable pub answered : ℕ → Bool → Result Bool ℕ
answered n is = cond (eqb n 0) (Ok is) (Err n)

-- the answer of the call
abbrev pub hidden_of : List ℕ → (w h n clip x y : ℕ) → Result Bool ℕ
hidden_of masks w h n clip x y = answered (hidden_number (length masks) w h n x y) (hidden_at masks w h n clip x y)
