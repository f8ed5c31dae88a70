use Rattle.std.proofs.Common.{arith, sym}
use Rattle.block.proofs.Laws.{end_low, end_short, end-small, end-past, end_at, is_end, no_end}
use Rattle.block.proofs.block_end.Goals as goal
use Rattle.block.proofs.block_end.Goals.{then-e-lt8-via-then-e-lt8, then-e-lt8-via-else-e-lt8+then-e-a, then-n-lt8-via-then-n-lt8, then-n-lt8-via-else-n-lt8+then-n-e}

pub returns-then-e-lt8 : goal.returns-then-e-lt8
returns-then-e-lt8 c =
    elim c.then-e-lt8.branch [
      | then-e-lt8-via-then-e-lt8 w ↦ no_end _ (end_low _ _ _ w.if-e-lt8.true)
      | then-e-lt8-via-else-e-lt8+then-e-a w ↦ no_end _ (end_short _ _ _ w.if-e-lt8.false w.if-e-a.true)
    ]

pub returns-then-n-lt8 : goal.returns-then-n-lt8
returns-then-n-lt8 c =
    elim c.then-n-lt8.branch [
      | then-n-lt8-via-then-n-lt8 w ↦ no_end _ (end-small _ _ _ _ c.read_be32-n.ensures w.if-n-lt8.true)
      | then-n-lt8-via-else-n-lt8+then-n-e w ↦ no_end _ (end-past _ _ _ _ c.read_be32-n.ensures (omega arith) w.if-n-e.true)
    ]

pub returns : goal.returns
returns c =
    let n = c.read_be32-n in
    is_end _ _ (sym (end_at _ _ _ _ n.ensures (omega arith) (omega arith) (omega arith))) (λ e. omega arith)
