-- What a strip of pixels, 8 wide and given by rows, makes of the cell below it (document 01, "Sessions": an entry's pixel is transparent
-- if its code is a transparent one and its value is the transparent index).
-- For the proofs: no public promise rests on what this page says.
use Rattle.std.specs.Prelude.{Bool, ◌&&◌, cond, List, ℕ, ◌+◌, ◌*◌, eqb, get_or}

-- the pixel v over o: the transparent index lets o through where the strip is transparent
abbrev pub pixel_over : ℕ → Bool → ℕ → ℕ → ℕ
pixel_over index transparent v o = cond (transparent && eqb v index) o v

-- the strip's colour at column c and row r over o
abbrev pub strip_over : List ℕ → ℕ → Bool → ℕ → ℕ → ℕ → ℕ
strip_over strip index transparent c r o = pixel_over index transparent (get_or strip (8 * r + c) 0) o
