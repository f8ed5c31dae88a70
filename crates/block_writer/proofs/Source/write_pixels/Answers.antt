use Rattle.std.proofs.Common.{arith, ◌≡◌, sym, ap, ◌∙◌, subst, List, ℕ, ◌*◌, ◌≤◌, length, take}
use Rattle.number.specs.Buffer.{over}
use Rattle.strip_writer.specs.Pixels.{strip_body}
use Rattle.block_writer.specs.Source.{body_of}
use Rattle.block_writer.proofs.SourceLaws.{pixels_body}
use Rattle.block_writer.proofs.StripBytesLaws.{length-strip_bytes}
use Rattle.block_writer.proofs.Source.write_pixels.Goals.{After-gather_pixels}
use Rattle.block_writer.proofs.Source.write_pixels.Goals as goal

body : (c : After-gather_pixels) → strip_body (take (8 * c.args.self.now.h) c.gather_pixels.new.out) ≡ body_of c.args.self.now c.args.k
body c = ap strip_body c.gather_pixels.ensures ∙ sym (pixels_body c.args.self.now c.args.k c.requires.picture)

pub write_strip-requires : goal.write_strip-requires
write_strip-requires c =
    let s = c.args.self.now in
    let some = ap length c.gather_pixels.ensures ∙ length-strip_bytes 8 (8 * s.n) s.h s.rows.now c.args.k in
    let same = sym (body (goal.at.write_strip-requires c).After-gather_pixels) in
    (omega (arith, some, s.given.one), subst (λ (l : List ℕ). length l ≤ length c.args.out.now) same c.requires.room)

pub returns-clause-len : goal.returns-clause-len
returns-clause-len c = c.write_strip.ensures.0 ∙ ap length (body (goal.at.returns-clause-len c).After-gather_pixels)

pub returns-clause-written : goal.returns-clause-written
returns-clause-written c = c.write_strip.ensures.1 ∙ ap (λ (l : List ℕ). over l c.args.out.now) (body (goal.at.returns-clause-written c).After-gather_pixels)
