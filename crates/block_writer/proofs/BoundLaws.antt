-- How long a body can be, and that the length of all bodies is the sum of theirs.
use Rattle.std.proofs.Common.{◌≡◌, ap, ◌∙◌, Bool, true, false, List, ℕ, zero, suc, ◌+◌, ◌*◌, ◌/◌, ◌≤◌, zero-le, mul-suc, arith, length, get_or, drop, length-append, length-drop}
use Rattle.table.specs.Table.{table_end}
use Rattle.strip_writer.proofs.WritingLaws.{length-strip}
use Rattle.strip_writer.proofs.SizeLaws.{ops_few}
use Rattle.strip_writer.proofs.RowLaws.{length_rows}
use Rattle.block_writer.specs.Block.{strip_bytes, body_for, bodies_from, size_of}
use Rattle.block_writer.proofs.StripBytesLaws.{length-strip_bytes}

pub pixels_body_few : (n h : ℕ) (src : List ℕ) (k : ℕ) → 1 ≤ h → length (body_for false n h src k) ≤ 10 * h + 1
unfolding body_for
pixels_body_few n h src k one =
    let px = strip_bytes 8 (8 * n) h src k in
    let len : length px ≡ 8 * h = length-strip_bytes 8 (8 * n) h src k in
    omega (arith, length-strip px (omega arith), ops_few (get_or px 0 0) 1 (drop 1 px), length-drop 1 px)

pub rows_body-few : (n h : ℕ) (src : List ℕ) (k : ℕ) → length (body_for true n h src k) ≤ h + (h + 2) / 3
unfolding body_for
rows_body-few n h src k = omega (arith, length-strip_bytes 1 n h src k, length_rows (strip_bytes 1 n h src k))

-- all bodies, where none is longer than b
pub sum-few : (f : ℕ → List ℕ) (b : ℕ) → ((k : ℕ) → length (f k) ≤ b) → (k m : ℕ) → length (bodies_from f k m) ≤ b * m
unfolding bodies_from
sum-few f b each k zero = zero-le
sum-few f b each k (suc m) = omega (arith, length-append (f k) (bodies_from f (k + 1) m), each k, sum-few f b each (k + 1) m, mul-suc b m)

-- a block whose bodies are none longer than b
pub size-most : (mask : Bool) (n b : ℕ) (f : ℕ → List ℕ) → ((k : ℕ) → length (f k) ≤ b) → size_of mask n f ≤ table_end mask n + b * n
unfolding size_of
size-most mask n b f each = omega (arith, sum-few f b each 0 n)

-- one body more
pub sum_step : (f : ℕ → List ℕ) (s m k : ℕ) → m ≡ suc k → length (bodies_from f s m) ≡ length (f s) + length (bodies_from f (s + 1) k)
unfolding bodies_from
sum_step f s m k e = ap (λ (j : ℕ). length (bodies_from f s j)) e ∙ length-append (f s) (bodies_from f (s + 1) k)

pub sum_stop : (f : ℕ → List ℕ) (s m : ℕ) → m ≡ 0 → length (bodies_from f s m) ≡ 0
unfolding bodies_from
sum_stop f s m e = ap (λ (j : ℕ). length (bodies_from f s j)) e
