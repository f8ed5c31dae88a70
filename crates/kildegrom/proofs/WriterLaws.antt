-- The length of a written block fits 32 bits. Assumes nothing.
use Rattle.std.proofs.Common.{ℕ, ◌<◌, ◌≡◌, refl, List, arith, length, Result, Ok, Err}
use Rattle.block_writer.specs.Call.{smap_outcome, plane_outcome, answer_of, target_after, value}
use Rattle.block_writer.proofs.ReadBack.{smap-short, plane-short}

module _ (w h : ℕ) (rows d : List ℕ) where
  pub smap-fits : (r : Result ℕ ℕ) → r ≡ answer_of (smap_outcome w h rows (length d)) → value r < 4294967296
  smap-fits (Ok size) e = omega (arith, smap-short w h rows d (target_after (smap_outcome w h rows (length d)) d) size e refl)
  smap-fits (Err n) e = omega arith

  pub plane-fits : (k : ℕ) (r : Result ℕ ℕ) → r ≡ answer_of (plane_outcome k w h rows (length d)) → value r < 4294967296
  plane-fits k (Ok size) e = omega (arith, plane-short w h rows d (target_after (plane_outcome k w h rows (length d)) d) size k e refl)
  plane-fits k (Err n) e = omega arith
