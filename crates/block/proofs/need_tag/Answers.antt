use Rattle.std.proofs.Common.{sym, ◌∙◌, arith, rules}
use Rattle.block.specs.Tree.{payload}
use Rattle.block.proofs.Laws.{nth_at}
use Rattle.block.proofs.need_tag.Goals as goal

pub overflow_add-p : goal.overflow_add-p
overflow_add-p c =
    let i = nth_at _ _ _ _ 0 _ _ (sym c.in_ok-b.was ∙ c.find_tag.ensures) in
    omega arith

pub overflow_sub-z : goal.overflow_sub-z
overflow_sub-z c =
    let i = nth_at _ _ _ _ 0 _ _ (sym c.in_ok-b.was ∙ c.find_tag.ensures) in
    omega arith

pub returns-in_err-b : goal.returns-in_err-b
unfolding payload
returns-in_err-b c = search rules

pub returns : goal.returns
unfolding payload
returns c = search rules
