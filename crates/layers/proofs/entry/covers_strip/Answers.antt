use Rattle.std.proofs.Common.{ℕ, ◌/◌, ◌∙◌, ◌&&◌, ap, leb, ltb, arith, ◌+◌, ◌*◌}
use Rattle.layers.proofs.RangeLaws.{in_range}
use Rattle.layers.proofs.SourceLaws.{covers_by}
use Rattle.layers.proofs.entry.covers_strip.Goals as goal

-- `layers::entry::covers_strip` meets its contract. Assumes nothing.

pub overflow_cast-strips-2 : goal.overflow_cast-strips-2
overflow_cast-strips-2 c = omega (arith, c.shared_slice_known-1.given (8 * c.args.e.object + 3))

pub returns : goal.returns
returns c = λ s r g one le.
    let left = c.args.e.x / 8 in
    c.contains.ensures.value ∙ in_range left c.args.k _ ∙ ap (λ (end : ℕ). leb left c.args.k && ltb c.args.k end) (omega arith)
    ∙ covers_by s r _ c.args.e _ g one le
