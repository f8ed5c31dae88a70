use Rattle.std.proofs.Common.{◌≡◌, refl, sym, ◌∙◌, arith}
use Rattle.block.proofs.Laws.{nth_at}
use Rattle.image.proofs.GatherLaws.{walked_none, walked_one, walked_here, walked_more, walked_all}
use Rattle.object_list.proofs.RowLaws.{rows_start, rows_more, rows-over}
use Rattle.object_list.proofs.put_rows.Goals as goal

-- `object_list::put_rows` meets its contract. Assumes nothing.

pub loop-b-init : goal.loop-b-init
loop-b-init c = (walked_none _, refl, rows_start _ _)

pub overflow_add-n : goal.overflow_add-n
overflow_add-n c =
    let pre = c.requires in
    omega (arith, c.loop-b.invariant.0.few, pre.0.few)

pub overflow_mul-n : goal.overflow_mul-n
overflow_mul-n c =
    let pre = c.requires in
    omega (arith, c.loop-b.invariant.0.few, pre.0.few)

pub put_row-requires : goal.put_row-requires
put_row-requires c =
    let found = sym c.in-Some.is ∙ c.find_tag.ensures in
    let inv = c.loop-b.invariant in
    let pre = c.requires in
    let i = nth_at _ _ _ _ 0 _ _ found in
    let one = walked_one _ _ _ _ _ inv.0 found in
    (omega arith, omega arith, omega (arith, one, pre.1, pre.2, inv.1), omega (arith, one, pre.0.few))

pub overflow_add-n-in-Some : goal.overflow_add-n-in-Some
overflow_add-n-in-Some c =
    let loop = c.loop-b in
    let pre = c.requires in
    omega (arith, loop.invariant.0.few, pre.0.few)

pub loop-b-smaller : goal.loop-b-smaller
loop-b-smaller c =
    let i = nth_at _ _ _ _ 0 _ _ (sym c.in-Some.is ∙ c.find_tag.ensures) in
    omega arith

pub loop-b-preserved : goal.loop-b-preserved
loop-b-preserved c =
    let put-row = c.put_row in let state-bits = c.state_bits-states in
    let found = sym c.in-Some.is ∙ c.find_tag.ensures in
    let inv = c.loop-b.invariant in
    let here = walked_here _ _ _ _ _ inv.0 found in (
      walked_more _ _ _ _ _ inv.0 found,
      put-row.auto.rows ∙ inv.1,
      rows_more _ _ _ _ _ _ _ _ here state-bits.ensures inv.2
          put-row.ensures,
    )

pub shape_of-rows : goal.shape_of-rows
shape_of-rows c = c.loop-b.invariant.1

pub returns : goal.returns
returns c =
    let loop = c.loop-b in
    let none = sym c.in_default.is ∙ c.find_tag.ensures in
    let all : loop.n ≡ c.args.objects = walked_all _ _ _ loop.invariant.0 none ∙ sym c.requires.1 in
    (rw all at loop.invariant.2) ∙ rows-over _ _ _ c.requires.2
