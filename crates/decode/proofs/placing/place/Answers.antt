use Rattle.std.proofs.Common.{ap, sym, ◌∙◌, Bool}
use Rattle.number.specs.Buffer.{over}
use Rattle.strip.specs.Picture.{placed}
use Rattle.decode.proofs.placing.place.Goals as goal

pub returns-then-vertical : goal.returns-then-vertical
returns-then-vertical c =
    let a = c.args in
    c.columns.ensures
    ∙ ap (λ (v : Bool). over (placed v a.h a.src.now) a.out.now) (sym c.if-vertical.true)

pub returns-else-vertical : goal.returns-else-vertical
returns-else-vertical c =
    let a = c.args in
    c.rows.ensures
    ∙ ap (λ (v : Bool). over (placed v a.h a.src.now) a.out.now) (sym c.if-vertical.false)
