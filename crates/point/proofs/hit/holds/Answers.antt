use Rattle.std.proofs.Common.{◌&&◌, sym, ◌∙◌}
use Rattle.point.specs.Point.{spans}
use Rattle.point.proofs.TableLaws.{holds_told}
use Rattle.point.proofs.hit.holds.Goals as goal

pub returns-then-spans : goal.returns-then-spans
returns-then-spans c =
    let at = c.box_at-at in
    let A = c.args in let pre = c.requires in
    (λ i. (sym c.if-spans.true ∙ c.spans.ensures) i && c.spans-then-spans.ensures i)
    ∙ holds_told A.boxes.now A.places.now A.size A.o pre.3 pre.4 A.x A.y at.result _ _ at.ensures.0 at.ensures.1
    c.cell-width.ensures.0 c.cell-height.ensures.0

pub returns-else-spans : goal.returns-else-spans
returns-else-spans c =
    let at = c.box_at-at in
    let A = c.args in let pre = c.requires in
    c.if-spans.false ∙ (λ i. (sym c.if-spans.false ∙ c.spans.ensures) i && spans at.result.y c.cell-height.result A.y)
    ∙ holds_told A.boxes.now A.places.now A.size A.o pre.3 pre.4 A.x A.y at.result _ _ at.ensures.0 at.ensures.1
    c.cell-width.ensures.0 c.cell-height.ensures.0
