use Rattle.std.proofs.Common.{refl, sym, rules, arith, ◌∙◌}
use Rattle.block.proofs.Laws.{some_end, none_end, end_of, list_stop, list_on, list_off, block_deep, block_in, block_leaf}
use Rattle.block.proofs.+block_ok_list_ok.Goals as goal

pub block_ok-returns-then-left-eq0 : goal.block_ok-returns-then-left-eq0
block_ok-returns-then-left-eq0 t c = block_deep _ _ _ _ c.if-left-eq0.true

pub block_ok-returns-then-is_container : goal.block_ok-returns-then-is_container
block_ok-returns-then-is_container t c =
    c.list_ok.ensures ∙ block_in _ _ _ _ _ c.if-left-eq0.false c.is_container.ensures c.if-is_container.true

pub block_ok-returns-else-is_container : goal.block_ok-returns-else-is_container
block_ok-returns-else-is_container t c = block_leaf _ _ _ _ _ c.if-left-eq0.false c.is_container.ensures c.if-is_container.false

pub list_ok-returns : goal.list_ok-returns
list_ok-returns t c =
    let none = none_end _ (sym c.in_default.is ∙ c.block_end.ensures) in
    list_stop _ _ _ _ _ refl none ∙ c.loop-z.invariant

pub list_ok-block_ok-requires : goal.list_ok-block_ok-requires
list_ok-block_ok-requires t c =
    let end = some_end _ _ (sym c.in-Some.is ∙ c.block_end.ensures) in
    let i = end_of _ _ _ _ end.0 end.1 in
    (search rules, (i.0, omega arith))

pub list_ok-loop-z-smaller : goal.list_ok-loop-z-smaller
list_ok-loop-z-smaller t c =
    let end = some_end _ _ (sym c.in-Some.is ∙ c.block_end.ensures) in
    let i = end_of _ _ _ _ end.0 end.1 in
    omega arith

pub list_ok-loop-z-preserved : goal.list_ok-loop-z-preserved
list_ok-loop-z-preserved t c =
    let end = some_end _ _ (sym c.in-Some.is ∙ c.block_end.ensures) in
    list_on _ _ _ _ _ end.0 _ c.block_ok.ensures end.1 c.if-not-block_ok.false ∙ c.loop-z.invariant

pub list_ok-returns-then-not-block_ok : goal.list_ok-returns-then-not-block_ok
list_ok-returns-then-not-block_ok t c =
    let end = some_end _ _ (sym c.in-Some.is ∙ c.block_end.ensures) in
    list_off _ _ _ _ _ end.0 _ c.block_ok.ensures end.1 c.if-not-block_ok.true ∙ c.loop-z.invariant
