-- What it is for a written block to read back (document 01, "Writing rule"; demand 2), by the reader's own definitions: crate table's test of
-- a block, its strips, its pixels and its mask bytes.
use Rattle.std.specs.Prelude.{◌≡◌, true, false, List, ℕ, ◌+◌, ◌-◌, ◌*◌, ◌<◌, get_or, Ok}
use Rattle.number.specs.Number.{be32}
use Rattle.strip.specs.Strip.{values}
use Rattle.strip.specs.Picture.{picture}
use Rattle.table.specs.Table.{table_right}
use Rattle.table.specs.Body.{strip_at, rows_at, pixel_at, mask_at}
use Rattle.table.specs.Test.{block_test}
use Rattle.block_writer.specs.Block.{pixels_of_strip, rows_of_strip, smap_tag, plane_tag}

-- [b, z) of s is an SMAP block of n strips and h rows, is accepted whole, and reads as the picture `rows`, pixel (x, y) at y × 8n + x
pub record SmapReads (n h : ℕ) (rows s : List ℕ) (b z : ℕ) : Type 0 where
  pub tag : be32 s b ≡ smap_tag
  pub size : be32 s (b + 4) ≡ z - b
  pub table : table_right false n s b z ≡ true
  pub test : block_test false n h s b z ≡ Ok tt
  pub strip : (k : ℕ) → k < n → strip_at n h s b z k ≡ picture false (pixels_of_strip n h rows k)
  pub pixel : (x y : ℕ) → x < 8 * n → y < h → pixel_at n h s b z x y ≡ get_or rows (y * (8 * n) + x) 0

-- [b, z) of s is a block ZP0k of n strips and h rows, is accepted whole, and reads as the plane `rows`, row y of strip t at y × n + t
pub record PlaneReads (k n h : ℕ) (rows s : List ℕ) (b z : ℕ) : Type 0 where
  pub tag : be32 s b ≡ plane_tag k
  pub size : be32 s (b + 4) ≡ z - b
  pub table : table_right true n s b z ≡ true
  pub test : block_test true n h s b z ≡ Ok tt
  pub strip : (t : ℕ) → t < n → rows_at n h s b z t ≡ values (rows_of_strip n h rows t)
  pub row : (t y : ℕ) → t < n → y < h → mask_at n h s b z t y ≡ get_or rows (y * n + t) 0
