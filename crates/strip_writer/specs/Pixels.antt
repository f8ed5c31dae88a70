-- The body of a strip of pixels (document 01, "Writing rule"): code 1C, the first colour, and an operation for each next pixel v:
-- `0` if v equals the colour, else `110` if v = colour - step, else `111` if v = colour + step, else `10`.
-- 1C is the first method, horizontal, with indexes of 8 bits. Colours are bytes: sums and differences are modulo 256.
use Rattle.std.specs.Prelude.{ℕ, Bool, true, false, cond, List, [], ◌∷◌, ◌++◌, ◌==◌}
use Rattle.bits.specs.Bits.{low_bits}
use Rattle.strip.specs.Strip.{plus, minus}
use Rattle.strip_writer.specs.Pack.{packed}

-- the bits of the operation for the next pixel v; `10` brings v as a new index, low bit first
unfoldable pub op_bits : (colour step v : ℕ) → List Bool
op_bits colour step v =
    cond (v == colour) (false ∷ [])
    (cond (v == minus colour step) (true ∷ true ∷ false ∷ [])
    (cond (v == plus colour step) (true ∷ true ∷ true ∷ [])
    (true ∷ false ∷ low_bits 8 v)))

-- the step after it: `111` negates it, `10` makes it 1 again
unfoldable pub step_of : (colour step v : ℕ) → ℕ
step_of colour step v =
    cond (v == colour) step
    (cond (v == minus colour step) step
    (cond (v == plus colour step) (minus 0 step)
    1))

-- the bits of the operations of a list of pixels
unfoldable pub ops_bits : (colour step : ℕ) → List ℕ → List Bool
ops_bits colour step [] = []
ops_bits colour step (v ∷ vs) = op_bits colour step v ++ ops_bits v (step_of colour step v) vs

-- the body of a strip, from its pixels by rows
unfoldable pub strip_body : List ℕ → List ℕ
strip_body [] = []
strip_body (first ∷ vs) = 0x1C ∷ first ∷ packed (ops_bits first 1 vs)
