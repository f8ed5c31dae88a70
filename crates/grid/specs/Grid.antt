-- What a run of writes leaves in a flat buffer that is read as a grid: cell (x, y) of a grid of width w stands at y * w + x (document 01,
-- "Sizes"). Bytes that no write names stay.
use Rattle.std.specs.Prelude.{Bool, ◌&&◌, cond, List, [], ◌∷◌, ℕ, suc, ◌+◌, ◌-◌, ◌*◌, ◌/◌, ◌%◌, ◌≤◌, ltb, leb, eqb}

-- the list whose element at i is f i o, where o is l's
unfoldable pub upd : (ℕ → ℕ → ℕ) → List ℕ → List ℕ
upd f [] = []
upd f (x ∷ xs) = f 0 x ∷ upd (λ i. f (suc i)) xs

-- x is one of the n numbers from a
unfoldable pub within : ℕ → ℕ → ℕ → Bool
within a n x = leb a x && ltb x (a + n)

-- a box of bw by bh cells from (x0, y0): f gives the new value of a cell by its column and row in the box and its old value
unfoldable pub boxed : (w x0 y0 bw bh : ℕ) → (ℕ → ℕ → ℕ → ℕ) → ℕ → ℕ → ℕ
boxed w x0 y0 bw bh f i o = cond (within y0 bh (i / w) && within x0 bw (i % w)) (f (i % w - x0) (i / w - y0) o) o

-- ---- for the proofs: no public promise rests on what follows

-- a row of n cells from (x0, y) in a grid of width w: g gives the new value of a cell by its place in the row and its old value
unfoldable pub rowed : (w x0 y n : ℕ) → (ℕ → ℕ → ℕ) → ℕ → ℕ → ℕ
rowed w x0 y n g i o = cond (eqb (i / w) y && within x0 n (i % w)) (g (i % w - x0) o) o

-- a box of bw by bh cells from (x0, y0) lies in a grid of w by h cells, which a buffer of n bytes holds
pub record Inside (n w h x0 y0 bw bh : ℕ) : Type 0 where
  pub wide : w ≤ 1024
  pub high : h ≤ 800
  pub room : w * h ≤ n
  pub right : x0 + bw ≤ w
  pub low : y0 + bh ≤ h
