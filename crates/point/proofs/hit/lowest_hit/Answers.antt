use Rattle.std.proofs.Common.{ap, ◌∙◌, arith}
use Rattle.point.specs.Call.{found}
use Rattle.point.specs.Point.{lowest}
use Rattle.point.proofs.CallLaws.{found_some}
use Rattle.point.proofs.PointLaws.{lowest-hit, lowest_miss, lowest-none}
use Rattle.point.proofs.hit.lowest_hit.Goals as goal

pub loop-o-init : goal.loop-o-init
loop-o-init c = ap (lowest _ 1) (omega arith)

pub is_hit-requires : goal.is_hit-requires
is_hit-requires c =
    let pre = c.requires in
    (pre.0, pre.1, pre.2, pre.3, c.loop-o.auto.o, omega arith, pre.4)

pub returns-then-is_hit : goal.returns-then-is_hit
returns-then-is_hit c =
    found_some _ (λ z. omega arith) ∙ ap found (lowest-hit _ _ _ (omega arith) c.loop-o.invariant _ c.is_hit.ensures c.if-is_hit.true)

pub loop-o-preserved : goal.loop-o-preserved
loop-o-preserved c = lowest_miss _ _ _ (omega arith) c.loop-o.invariant _ c.is_hit.ensures c.if-is_hit.false

pub returns : goal.returns
returns c = ap found (lowest-none _ _ _ (omega arith) c.loop-o.invariant)
