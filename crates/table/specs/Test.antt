-- The test of a whole SMAP or ZP block (document 01, "Numbered refusals"): 5 first, then 6 to 8 at its leftmost bad strip, at that
-- strip's first bad operation. Arguments as in Table.
use Rattle.std.specs.Prelude.{ℕ, zero, suc, ◌+◌, List, Bool, true, false, cond, Result, Ok, Err}
use Rattle.strip.specs.Strip.{Strip, refused, values}
use Rattle.strip.specs.Picture.{Picture, refusal, picture}
use Rattle.table.specs.Table.{table_right}
use Rattle.table.specs.Body.{strip_at, rows_at}

-- document 01's number for a test's answer
abbrev pub number : Result (Unit {0}) ℕ → ℕ
number (Ok tt) = 0
number (Err n) = n

-- a test, and where it passes another
abbrev pub and_then : Result (Unit {0}) ℕ → Result (Unit {0}) ℕ → Result (Unit {0}) ℕ
and_then (Ok tt) t = t
and_then (Err n) t = Err n

abbrev pub picture_test : Picture → Result (Unit {0}) ℕ
picture_test (refusal n) = Err n
picture_test (picture clear pixels) = Ok tt

abbrev pub rows_test : Strip → Result (Unit {0}) ℕ
rows_test (refused n) = Err n
rows_test (values rows) = Ok tt

-- the test of strip k
unfoldable pub strip_test : Bool → (n h : ℕ) → List ℕ → (b z k : ℕ) → Result (Unit {0}) ℕ
strip_test false n h s b z k = picture_test (strip_at n h s b z k)
strip_test true n h s b z k = rows_test (rows_at n h s b z k)

-- the leftmost refusal among m strips from strip k on
unfoldable pub leftmost : (ℕ → Result (Unit {0}) ℕ) → (k m : ℕ) → Result (Unit {0}) ℕ
leftmost test k zero = Ok tt
leftmost test k (suc m) = and_then (test k) (leftmost test (k + 1) m)

-- the whole block
unfoldable pub block_test : Bool → (n h : ℕ) → List ℕ → (b z : ℕ) → Result (Unit {0}) ℕ
block_test mask n h s b z = cond (table_right mask n s b z) (leftmost (strip_test mask n h s b z) 0 n) (Err 5)
