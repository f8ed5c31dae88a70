use Rattle.std.proofs.Common.{refl, sym, ◌∙◌, ap, arith, length}
use Rattle.block.proofs.Laws.{some_end, none_end, end_of, tagged_stop, tagged_here, tagged-on}
use Rattle.block.proofs.count_tag.Goals as goal

pub returns : goal.returns
returns c =
    let none = none_end _ (sym c.in_default.is ∙ c.block_end.ensures) in
    let none = ap length (tagged_stop c.args.tag _ _ _ _ refl none) in
    omega arith

pub read_be32-requires : goal.read_be32-requires
read_be32-requires c =
    let end = some_end _ _ (sym c.in-Some.is ∙ c.block_end.ensures) in
    let i = end_of _ _ _ _ end.0 end.1 in
    omega arith

pub overflow_add-n : goal.overflow_add-n
overflow_add-n c =
    let end = some_end _ _ (sym c.in-Some.is ∙ c.block_end.ensures) in
    let i = end_of _ _ _ _ end.0 end.1 in
    omega arith

pub loop-z-smaller-then-read_be32-tag : goal.loop-z-smaller-then-read_be32-tag
loop-z-smaller-then-read_be32-tag c =
    let end = some_end _ _ (sym c.in-Some.is ∙ c.block_end.ensures) in
    let i = end_of _ _ _ _ end.0 end.1 in
    omega arith

pub loop-z-preserved-then-read_be32-tag : goal.loop-z-preserved-then-read_be32-tag
loop-z-preserved-then-read_be32-tag c =
    let end = some_end _ _ (sym c.in-Some.is ∙ c.block_end.ensures) in
    let i = end_of _ _ _ _ end.0 end.1 in
    let one = ap length (tagged_here _ _ _ _ _ end.0 end.1 _ c.read_be32.ensures c.if-read_be32-tag.true) in
    omega arith

pub loop-z-smaller : goal.loop-z-smaller
loop-z-smaller c =
    let end = some_end _ _ (sym c.in-Some.is ∙ c.block_end.ensures) in
    let i = end_of _ _ _ _ end.0 end.1 in
    omega arith

pub loop-z-preserved : goal.loop-z-preserved
loop-z-preserved c =
    let end = some_end _ _ (sym c.in-Some.is ∙ c.block_end.ensures) in
    let i = end_of _ _ _ _ end.0 end.1 in
    let same = ap length (tagged-on _ _ _ _ _ end.0 end.1 _ c.read_be32.ensures c.if-read_be32-tag.false) in
    omega arith
