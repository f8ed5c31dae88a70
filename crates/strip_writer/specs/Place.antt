-- How far a strip of mask rows is written, and what one operation more does.
-- For the proofs: no public promise rests on what this page says.
use Rattle.std.specs.Prelude.{◌≡◌, ℕ, ◌+◌, ◌<◌, ◌≤◌, List, ◌++◌, length, take, drop}
use Rattle.strip_writer.specs.declared.Place.{Place}
use Rattle.strip_writer.specs.Rows.{ops_bytes}

-- the bytes before a place, and the operations of the rows from y on: what will have been written at the end
abbrev pub pending : (rows out : List ℕ) (y at : ℕ) → List ℕ
pending rows out y at = take at out ++ ops_bytes 0 (drop y rows)

-- one operation more was written: the buffer d became e
pub record OpWritten (rows d e : List ℕ) (y at : ℕ) (r : Place) : Type 0 where
  pub same : pending rows d y at ≡ pending rows e r.y r.at
  pub past : drop r.at e ≡ drop r.at d
  pub whole : length e ≡ length d
  pub on : at ≤ r.at
  pub more : y < r.y
  pub inside : r.y ≤ length rows
  pub room : r.at + length (ops_bytes 0 (drop r.y rows)) ≤ length e
