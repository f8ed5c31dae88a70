-- A lent buffer after a write at its start.
use Rattle.std.specs.Prelude.{List, ◌++◌, ℕ, length, drop}

-- a list over the front of another: a lent buffer d once xs is written at its start
unfoldable pub over : List ℕ → List ℕ → List ℕ
over xs d = xs ++ drop (length xs) d
