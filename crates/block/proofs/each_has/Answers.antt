use Rattle.std.proofs.Common.{refl, sym, ◌∙◌, arith}
use Rattle.block.proofs.Laws.{some_end, none_end, end_of, each_stop, each_on, each-has, each-not}
use Rattle.block.proofs.each_has.Goals as goal

pub returns : goal.returns
returns c =
    let none = none_end _ (sym c.in_default.is ∙ c.block_end.ensures) in
    each_stop _ _ _ _ _ _ _ refl none ∙ c.loop-z.invariant

pub read_be32-requires : goal.read_be32-requires
read_be32-requires c =
    let end = some_end _ _ (sym c.in-Some.is ∙ c.block_end.ensures) in
    let i = end_of _ _ _ _ end.0 end.1 in
    omega arith

pub overflow_add-a : goal.overflow_add-a
overflow_add-a c =
    let end = some_end _ _ (sym c.in-Some.is ∙ c.block_end.ensures) in
    let i = end_of _ _ _ _ end.0 end.1 in
    omega arith

pub has_tag-requires : goal.has_tag-requires
has_tag-requires c =
    let end = some_end _ _ (sym c.in-Some.is ∙ c.block_end.ensures) in
    let i = end_of _ _ _ _ end.0 end.1 in
    omega arith

pub loop-z-smaller-else-not-has_tag : goal.loop-z-smaller-else-not-has_tag
loop-z-smaller-else-not-has_tag c =
    let end = some_end _ _ (sym c.in-Some.is ∙ c.block_end.ensures) in
    let i = end_of _ _ _ _ end.0 end.1 in
    omega arith

pub loop-z-preserved-else-not-has_tag : goal.loop-z-preserved-else-not-has_tag
loop-z-preserved-else-not-has_tag c =
    let end = some_end _ _ (sym c.in-Some.is ∙ c.block_end.ensures) in
    let if2 = c.if-read_be32-tag in let read-be32 = c.read_be32 in
    let loop = c.loop-z in
    each-has _ _ _ _ _ _ _ end.0 end.1 _ read-be32.ensures if2.true _ c.has_tag.ensures c.if-not-has_tag.false
    ∙ loop.invariant

pub returns-then-not-has_tag : goal.returns-then-not-has_tag
returns-then-not-has_tag c =
    let end = some_end _ _ (sym c.in-Some.is ∙ c.block_end.ensures) in
    let if2 = c.if-read_be32-tag in let read-be32 = c.read_be32 in
    let loop = c.loop-z in
    each-not _ _ _ _ _ _ _ end.0 end.1 _ read-be32.ensures if2.true _ c.has_tag.ensures c.if-not-has_tag.true
    ∙ loop.invariant

pub loop-z-smaller : goal.loop-z-smaller
loop-z-smaller c =
    let end = some_end _ _ (sym c.in-Some.is ∙ c.block_end.ensures) in
    let i = end_of _ _ _ _ end.0 end.1 in
    omega arith

pub loop-z-preserved : goal.loop-z-preserved
loop-z-preserved c =
    let end = some_end _ _ (sym c.in-Some.is ∙ c.block_end.ensures) in
    each_on _ _ _ _ _ _ _ end.0 end.1 _ c.read_be32.ensures c.if-read_be32-tag.false
    ∙ c.loop-z.invariant
