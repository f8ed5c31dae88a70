-- Two strips painted side by side: which cells of the box of both a strip shows.
-- For the proofs: no public promise rests on what this page says.
use Rattle.std.specs.Prelude.{◌≡◌, List, ℕ, ◌+◌, ◌*◌, ◌<◌, get_or}

-- the strip's 8 by h pixels, by rows, are the cells of f from column x on
abbrev pub Shows : (x h : ℕ) (strip : List ℕ) (f : ℕ → ℕ → ℕ) → Type 0
Shows x h strip f = (c r : ℕ) → c < 8 → r < h → get_or strip (8 * r + c) 0 ≡ f (x + c) r
