use Rattle.std.proofs.Common.{sym, ◌∙◌, arith}
use Rattle.strip.proofs.PlaceLaws.{few-no-run}
use Rattle.bits.proofs.CursorLaws.{all_held}
use Rattle.bits.specs.Bits.{rest}
use Rattle.strip.proofs.operations.run_left.Goals as goal

pub returns-else-holds : goal.returns-else-holds
returns-else-holds c = λ s full.
    let cur = c.args.cur in
    let few = c.holds.ensures.1 c.if-holds.false in
    c.if-holds.false ∙ sym (few-no-run c.args.second (rest s cur) (rw (all_held s cur full (omega arith)) few))

pub run_at-requires : goal.run_at-requires
run_at-requires c = (c.holds.ensures.0 c.if-holds.true, c.requires)

pub returns-then-holds : goal.returns-then-holds
returns-then-holds c = λ s full. c.run_at.ensures s
