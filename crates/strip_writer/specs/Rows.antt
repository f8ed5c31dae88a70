-- The body of a strip of a mask plane (document 01, "Writing rule"): none where all rows are zero. Else, at each row, the run of
-- equal bytes, capped at 127; 2 or more is a run; otherwise a literal up to the next place where two equal rows begin, capped at 127.
use Rattle.std.specs.Prelude.{ℕ, zero, suc, ◌+◌, ◌-◌, Bool, true, cond, ◌&&◌, List, [], ◌∷◌, ◌++◌, take, ◌==◌, nat_le}

-- how many rows at the front equal b, at most `most`
unfoldable pub run_length : (most b : ℕ) → List ℕ → ℕ
run_length zero b l = 0
run_length (suc k) b [] = 0
run_length (suc k) b (x ∷ t) = cond (x == b) (suc (run_length k b t)) 0

-- how many rows stand before the next place where two equal rows begin, at most `most`; a last row alone is no such place
unfoldable pub literal_length : (most : ℕ) → List ℕ → ℕ
literal_length zero l = 0
literal_length (suc k) [] = 0
literal_length (suc k) (x ∷ []) = 1
literal_length (suc k) (x ∷ y ∷ t) = cond (x == y) 0 (suc (literal_length k (y ∷ t)))

-- how many rows the next operation brings, where the rows x ∷ t are left
unfoldable pub op_rows : ℕ → List ℕ → ℕ
op_rows x t = cond (nat_le 2 (run_length 127 x (x ∷ t))) (run_length 127 x (x ∷ t)) (literal_length 127 (x ∷ t))

-- its bytes: 80 + the count and the one byte of a run, or the count and the bytes of a literal
unfoldable pub op_bytes : ℕ → List ℕ → List ℕ
op_bytes x t =
    cond (nat_le 2 (run_length 127 x (x ∷ t)))
    ((0x80 + run_length 127 x (x ∷ t)) ∷ x ∷ [])
    (literal_length 127 (x ∷ t) ∷ take (literal_length 127 (x ∷ t)) (x ∷ t))

-- the operations of a list of rows, of which the operation before has brought the first k already
unfoldable pub ops_bytes : ℕ → List ℕ → List ℕ
ops_bytes k [] = []
ops_bytes (suc k) (x ∷ t) = ops_bytes k t
ops_bytes zero (x ∷ t) = op_bytes x t ++ ops_bytes (op_rows x t - 1) t

unfoldable pub all_zero : List ℕ → Bool
all_zero [] = true
all_zero (x ∷ t) = x == 0 && all_zero t

-- the body of a strip, from its rows
unfoldable pub rows_body : List ℕ → List ℕ
rows_body l = cond (all_zero l) [] (ops_bytes 0 l)
