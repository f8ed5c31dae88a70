use Rattle.std.proofs.Common.{ℕ, ◌&&◌, ◌∙◌, ap, leb, ltb, arith}
use Rattle.layers.proofs.RangeLaws.{in_range}
use Rattle.point.proofs.hit.spans.Goals as goal

pub returns : goal.returns
unfolding Rattle.point.specs.Point.spans
returns c =
    let a = c.args in
    c.contains.ensures.value ∙ in_range a.from a.p _ ∙ ap (λ (end : ℕ). leb a.from a.p && ltb a.p end) (omega arith)
