-- Laws of a body that is made from a source, by the source's kind.
use Rattle.std.proofs.Common.{◌≡◌, sym, ap, ◌∙◌, subst, Bool, true, false, ℕ, ◌+◌, ◌*◌, ◌/◌, ◌≤◌, length}
use Rattle.block_writer.specs.declared.Source.{Source}
use Rattle.block_writer.specs.Block.{strip_bytes, body_for}
use Rattle.block_writer.specs.Source.{body_of}
use Rattle.strip_writer.specs.Pixels.{strip_body}
use Rattle.strip_writer.specs.Rows.{rows_body}
use Rattle.block_writer.proofs.StripBytesLaws.{body_pixels, body_rows}
use Rattle.block_writer.proofs.BoundLaws.{pixels_body_few, rows_body-few}

module _ (s : Source) (k : ℕ) where
  pub pixels_body : s.mask ≡ false → body_of s k ≡ strip_body (strip_bytes 8 (8 * s.n) s.h s.rows.now k)
  pixels_body e = ap (λ (m : Bool). body_for m s.n s.h s.rows.now k) e ∙ body_pixels s.n s.h s.rows.now k

  pub plane_body : s.mask ≡ true → body_of s k ≡ rows_body (strip_bytes 1 s.n s.h s.rows.now k)
  plane_body e = ap (λ (m : Bool). body_for m s.n s.h s.rows.now k) e ∙ body_rows s.n s.h s.rows.now k

  pub pixels_few : s.mask ≡ false → length (body_of s k) ≤ 10 * s.h + 1
  pixels_few e = subst (λ (m : Bool). length (body_for m s.n s.h s.rows.now k) ≤ 10 * s.h + 1) (sym e) (pixels_body_few s.n s.h s.rows.now k s.given.one)

  pub rows_few : s.mask ≡ true → length (body_of s k) ≤ s.h + (s.h + 2) / 3
  rows_few e = subst (λ (m : Bool). length (body_for m s.n s.h s.rows.now k) ≤ s.h + (s.h + 2) / 3) (sym e) (rows_body-few s.n s.h s.rows.now k)
