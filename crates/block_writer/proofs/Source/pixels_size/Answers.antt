use Rattle.std.proofs.Common.{sym, ap, ◌∙◌, List, ℕ, length}
use Rattle.strip_writer.specs.Pixels.{strip_body}
use Rattle.block_writer.proofs.SourceLaws.{pixels_body}
use Rattle.block_writer.proofs.Source.pixels_size.Goals as goal

pub returns : goal.returns
returns c =
    c.strip_size.ensures
    ∙ ap (λ (l : List ℕ). length (strip_body l)) c.gather_pixels.ensures
    ∙ ap length (sym (pixels_body c.args.self.now c.args.k c.requires.picture))
