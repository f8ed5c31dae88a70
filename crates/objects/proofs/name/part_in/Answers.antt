use Rattle.std.proofs.Common.{arith, sym, ◌∙◌}
use Rattle.objects.proofs.NameLaws.{name_at}
use Rattle.objects.proofs.name.part_in.Goals as goal

pub overflow_sub-result : goal.overflow_sub-result
overflow_sub-result c =
    let pre = c.requires in
    let i = name_at _ _ _ _ _ pre.1 (sym c.in-Some.is ∙ c.name_in.ensures) in
    omega arith

pub returns-in-Some : goal.returns-in-Some
returns-in-Some c =
    let pre = c.requires in
    let at = sym c.in-Some.is ∙ c.name_in.ensures in
    let i = name_at _ _ _ _ _ pre.1 at in
    (rw (← at), omega arith)

pub returns-in-None : goal.returns-in-None
returns-in-None c =
    let none = sym c.in-None.is ∙ c.name_in.ensures in
    (rw (← none), omega arith)
