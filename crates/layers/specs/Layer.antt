-- One strip of a lent surface, over its full height: what entries make of its bytes, one over the other (document 01, "Sessions",
-- "Painting afresh"). Layouts as in crate scene.
-- For the proofs: no public promise rests on what this page says.
use Rattle.std.specs.Prelude.{ℕ, Bool, not, ◌&&◌, cond, List, ltb, eqb, get_or}
use Rattle.scene.specs.Painting.{Layout, layered, every}
use Rattle.scene.specs.declared.Entry.{Entry}

-- f at the bytes of strip k among the first `size`; every other byte stays
unfoldable pub strip_byte : (size : ℕ) (strip : ℕ → ℕ) (k : ℕ) → (ℕ → ℕ → ℕ) → ℕ → ℕ → ℕ
strip_byte size strip k f i old = cond (ltb i size && eqb (strip i) k) (f i old) old

-- the entries painted over strip k, in order
unfoldable pub over_byte : Layout → List Entry → ℕ → ℕ → ℕ → ℕ
over_byte lay es k = strip_byte lay.size lay.strip k (λ i old. layered (lay.over i) old es)

-- of a strip's first n pixels none is transparent: its code is not a transparent one, or no value is the transparent index
unfoldable pub none_clear : ℕ → Bool → List ℕ → ℕ → Bool
none_clear index clear values n = every n (λ i. not (clear && eqb (get_or values i 0) index))
