use Rattle.std.proofs.Common.{arith, ◌∙◌}
use Rattle.climb.specs.Tables.{boxes_of, state_in}
use Rattle.climb.proofs.ClimbLaws.{climb_out, climb_top, climb_gone, climb_on, climb_shut}
use Rattle.climb.proofs.chain.+is_open.Goals as goal

pub returns-then-links-eq0 : goal.returns-then-links-eq0
returns-then-links-eq0 t c = climb_out _ _ _ _ c.if-links-eq0.true

pub returns-then-parent-eq0 : goal.returns-then-parent-eq0
returns-then-parent-eq0 t c = climb_top _ _ _ _ c.if-links-eq0.false c.if-parent-eq0.true

pub returns-then-count-parent : goal.returns-then-count-parent
returns-then-count-parent t c = climb_gone _ _ _ _ c.if-links-eq0.false c.if-parent-eq0.false (omega arith)

pub returns-then-lets : goal.returns-then-lets
returns-then-lets t c =
    let a = c.args in
    c.is_open.ensures
    ∙ climb_on (boxes_of a.boxes.now a.count) (state_in a.states.now) a.links a.o c.if-links-eq0.false c.if-parent-eq0.false (omega arith) _
    c.lets.ensures c.if-lets.true

pub returns : goal.returns
returns t c =
    let a = c.args in
    climb_shut (boxes_of a.boxes.now a.count) (state_in a.states.now) a.links a.o c.if-links-eq0.false c.if-parent-eq0.false (omega arith) _
    c.lets.ensures c.if-lets.false
