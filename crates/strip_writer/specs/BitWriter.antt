-- A place among the bits that are written, and what the functions that write bits promise of it.
-- For the proofs: no public promise rests on what this page says.
use Rattle.std.specs.Prelude.{◌≡◌, ℕ, ◌+◌, ◌*◌, ◌^◌, ◌<◌, ◌≤◌, Bool, List, ◌++◌, length, take, drop}
use Rattle.bits.specs.Bits.{low_bits}
use Rattle.strip_writer.specs.declared.BitWriter.{BitWriter}
use Rattle.strip_writer.specs.declared.Op.{Op}
use Rattle.strip_writer.specs.Pack.{packed}
use Rattle.strip_writer.specs.Pixels.{op_bits, step_of}

-- the bytes that are done, then the bits held and the bits l after them, packed: what will have been written once l has followed
unfoldable pub bytes_with : List ℕ → BitWriter → List Bool → List ℕ
bytes_with out w l = take w.at out ++ packed (low_bits w.bits w.hold ++ l)

-- how many bits have been written
abbrev pub bit_count : BitWriter → ℕ
bit_count w = 8 * w.at + w.bits

-- the bits were put: the buffer d at the place p became e at the place q
pub record BitsPut (d e : List ℕ) (p q : BitWriter) (bits : List Bool) : Type 0 where
  pub same : (l : List Bool) → bytes_with d p (bits ++ l) ≡ bytes_with e q l
  pub on : p.at ≤ q.at
  pub past : drop q.at e ≡ drop q.at d
  pub whole : length e ≡ length d
  pub low : q.hold < 2 ^ q.bits

-- the operation for the next pixel v as a number of so many bits, and the step after it
pub record OpCoded (colour step v : ℕ) (r : Op) : Type 0 where
  pub means : low_bits r.count r.value ≡ op_bits colour step v
  pub few : r.count ≤ 10
  pub low : r.value < 2 ^ r.count
  pub after : r.step ≡ step_of colour step v
