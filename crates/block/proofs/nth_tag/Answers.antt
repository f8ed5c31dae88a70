use Rattle.std.proofs.Common.{refl, sym, ◌∙◌, arith}
use Rattle.block.proofs.Laws.{some_end, none_end, end_of, nth_stop, nth_here, nth-down, nth_on}
use Rattle.block.proofs.nth_tag.Goals as goal

pub returns : goal.returns
returns c =
    let none = none_end _ (sym c.in_default.is ∙ c.block_end.ensures) in
    nth_stop _ _ _ _ _ refl _ none ∙ c.loop-z.invariant

pub read_be32-requires : goal.read_be32-requires
read_be32-requires c =
    let end = some_end _ _ (sym c.in-Some.is ∙ c.block_end.ensures) in
    let i = end_of _ _ _ _ end.0 end.1 in
    omega arith

pub returns-then-left-eq0 : goal.returns-then-left-eq0
returns-then-left-eq0 c =
    let end = some_end _ _ (sym c.in-Some.is ∙ c.block_end.ensures) in
    let read-be32 = c.read_be32 in let loop = c.loop-z in
    nth_here _ _ _ _ _ end.0 _ end.1 _ read-be32.ensures c.if-read_be32-tag.true c.if-left-eq0.true
    ∙ loop.invariant

pub loop-z-smaller-else-left-eq0 : goal.loop-z-smaller-else-left-eq0
loop-z-smaller-else-left-eq0 c =
    let end = some_end _ _ (sym c.in-Some.is ∙ c.block_end.ensures) in
    let i = end_of _ _ _ _ end.0 end.1 in
    omega arith

pub loop-z-preserved-else-left-eq0 : goal.loop-z-preserved-else-left-eq0
loop-z-preserved-else-left-eq0 c =
    let end = some_end _ _ (sym c.in-Some.is ∙ c.block_end.ensures) in
    let read-be32 = c.read_be32 in let loop = c.loop-z in
    nth-down _ _ _ _ _ end.0 _ end.1 _ read-be32.ensures c.if-read_be32-tag.true c.if-left-eq0.false
    ∙ loop.invariant

pub loop-z-smaller : goal.loop-z-smaller
loop-z-smaller c =
    let end = some_end _ _ (sym c.in-Some.is ∙ c.block_end.ensures) in
    let i = end_of _ _ _ _ end.0 end.1 in
    omega arith

pub loop-z-preserved : goal.loop-z-preserved
loop-z-preserved c =
    let end = some_end _ _ (sym c.in-Some.is ∙ c.block_end.ensures) in
    nth_on _ _ _ _ _ end.0 _ end.1 _ c.read_be32.ensures c.if-read_be32-tag.false
    ∙ c.loop-z.invariant
