use Rattle.std.proofs.Common.{ap, sym, ◌∙◌, ◌+◌, List, drop, drop_of_length-le}
use Rattle.std.proofs.lemmas.List.{at_drop_more}
use Rattle.cast.specs.declared.Actor.{Actor}
use Rattle.cast.specs.Order.{none}
use Rattle.cast.specs.Call.{stamp_all}
use Rattle.cast.proofs.paint.stamp_all.Goals as goal

-- `cast::paint::stamp_all` meets its contract. Assumes nothing.

pub loop-a-preserved : goal.loop-a-preserved
unfolding stamp_all
loop-a-preserved c =
    let a = c.args in
    let i = c.loop-a.a-index in
    let rest = drop (i + 1) a.list.now in
    let all = stamp_all a.masks.now a.pictures.now a.w a.h a.n a.clear in
    ap (all rest) c.stamp_one.ensures
    ∙ sym (at_drop_more (λ (l : List Actor). all l c.loop-a.frame) a.list.now i none c.loop-a-test.true)
    ∙ c.loop-a.invariant

pub returns : goal.returns
unfolding stamp_all
returns c = rw (drop_of_length-le c.args.list.now c.loop-a-test.false) at c.loop-a.invariant
