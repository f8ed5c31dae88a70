use Rattle.std.proofs.Common.{arith, sym, ◌∙◌}
use Rattle.image.proofs.GatherLaws.{walked_one, list-none, list-more, list_all}
use Rattle.block.proofs.Laws.{nth_at}
use Rattle.image.proofs.gather.list_objects.Goals as goal

pub object_row-row-requires : goal.object_row-row-requires
object_row-row-requires c =
    let i = nth_at _ _ _ _ 0 _ _ (sym c.in-Some.is ∙ c.find_tag.ensures) in
    omega arith

pub loop-b-smaller : goal.loop-b-smaller
loop-b-smaller c =
    let find-tag = c.find_tag in
    let i = nth_at _ _ _ _ 0 _ _ (sym c.in-Some.is ∙ find-tag.ensures) in
    omega arith

pub loop-b-preserved : goal.loop-b-preserved
loop-b-preserved c =
    let put-row = c.put_row in let object-row = c.object_row-row in let find-tag = c.find_tag in
    let loop = c.loop-b in
    list-more _ _ _ _ _ _ _ _ loop.invariant (sym c.in-Some.is ∙ find-tag.ensures) _ (rw object-row.ensures at put-row.ensures)

pub returns : goal.returns
returns c =
    let all = list_all _ _ _ _ _ _ c.loop-b.invariant (sym c.in_default.is ∙ c.find_tag.ensures) in
    record { count = all.0; filled = all.1 }
