-- The two methods (document 01, "Strips of pixels"): what the bits of a strip mean, its pixels in the order in which they are made or the
-- number of its refusal, 7 or 8.
use Rattle.std.specs.Prelude.{◌≡◌, ℕ, zero, suc, ◌+◌, ◌-◌, ◌%◌, Bool, true, false, cond, List, [], ◌∷◌, ◌++◌, take, drop, ◌==◌, nat_le, Result, Ok, Err}
use Rattle.bits.specs.Bits.{Pull, short, got, pull}

-- a colour is a byte: sums and differences are modulo 256
abbrev pub plus : ℕ → ℕ → ℕ
plus a b = (a + b) % 256

abbrev pub minus : ℕ → ℕ → ℕ
minus a b = (a + (256 - b)) % 256

-- what an operation gives: a refusal, or a pixel of a colour, with so many more of it pending, the step, and the bits left
pub data Move : Type 0 where
  refuse : ℕ → Move
  go : (pending colour step : ℕ) (bits : List Bool) → Move

-- `10`: a new index, and the step is 1 again (7 where its bits are missing)
abbrev pub index_op : (index : Pull) → Move
index_op short = refuse 7
index_op (got colour bits) = go 0 colour 1 bits

-- first method: `110` colour − step; `111` negate the step, then colour − step
abbrev pub walk_op : (colour step : ℕ) (bits : List Bool) → Move
walk_op colour step [] = refuse 7
walk_op colour step (false ∷ bits) = go 0 (minus colour step) step bits
walk_op colour step (true ∷ bits) = go 0 (minus colour (minus 0 step)) (minus 0 step) bits

-- a run of n gives n pixels, with 0 meaning 256 (change request 5)
abbrev pub run_pixels : ℕ → ℕ
run_pixels zero = 256
run_pixels (suc n) = suc n

-- second method, d = 4: an 8-bit n gives a run of the colour, of which all pixels but the first are pending
abbrev pub run_op : (colour step : ℕ) (run : Pull) → Move
run_op colour step short = refuse 7
run_op colour step (got n bits) = go (run_pixels n - 1) colour step bits

-- second method: `11` and 3-bit d; d ≠ 4 gives colour + d − 4
abbrev pub change_op : (colour step : ℕ) (change : Pull) → Move
change_op colour step short = refuse 7
change_op colour step (got d bits) = cond (d == 4) (run_op colour step (pull 8 bits)) (go 0 (minus (plus colour d) 4) step bits)

-- an operation of the first method (false) or the second (true), with `width` bits to an index: `0` keeps the colour
abbrev pub op_of : (second : Bool) (width colour step : ℕ) (bits : List Bool) → Move
op_of second width colour step [] = refuse 7
op_of second width colour step (false ∷ bits) = go 0 colour step bits
op_of second width colour step (true ∷ []) = refuse 7
op_of second width colour step (true ∷ false ∷ bits) = index_op (pull width bits)
op_of false width colour step (true ∷ true ∷ bits) = walk_op colour step bits
op_of true width colour step (true ∷ true ∷ bits) = change_op colour step (pull 3 bits)

-- what is pending is measured against the pixels to do after this one
abbrev pub measured : (todo : ℕ) → Move → Move
measured todo (refuse n) = refuse n
measured todo (go pending colour step bits) = cond (nat_le pending todo) (go pending colour step bits) (refuse 8)

-- the next pixel: one that is pending, or the first that the next operation gives
abbrev pub move_of : (second : Bool) (width todo pending colour step : ℕ) (bits : List Bool) → Move
move_of second width todo zero colour step bits = measured todo (op_of second width colour step bits)
move_of second width todo (suc pending) colour step bits = go pending colour step bits

-- what a decode comes to: the number of the refusal, or the values, which are a strip's pixels or its rows of a mask
pub data Strip : Type 0 where
  refused : ℕ → Strip
  values : List ℕ → Strip

-- a value in front
abbrev pub onto : ℕ → Strip → Strip
onto x (refused n) = refused n
onto x (values xs) = values (x ∷ xs)

-- values in front
abbrev pub prepend : List ℕ → Strip → Strip
prepend xs (refused n) = refused n
prepend xs (values ys) = values (xs ++ ys)

-- the pixels that are still to do, of a strip that they fill: so many more of the colour are pending, and the bits are those left
unfoldable pub decode : (second : Bool) (width todo pending colour step : ℕ) (bits : List Bool) → Strip
decode second width zero pending colour step bits = values []
decode second width (suc todo) pending colour step bits =
    elim (move_of second width todo pending colour step bits) [
      | refuse n ↦ refused n
      | go pending' colour' step' bits' ↦ onto colour' (decode second width todo pending' colour' step' bits')
    ]

-- ---- for the proofs: no public promise rests on what follows

-- what a decode comes to without its values
abbrev pub made_of : Strip → Result (Unit {0}) ℕ
made_of (refused n) = Err n
made_of (values xs) = Ok tt

-- the answer r to a decode x of n values into a buffer d, which is e after
abbrev pub Filled : ℕ → Strip → List ℕ → List ℕ → Result (Unit {0}) ℕ → Type 0
Filled n x d e (Ok tt) = (x ≡ values (take n e)) × (drop n e ≡ drop n d)
Filled n x d e (Err r) = x ≡ refused r
