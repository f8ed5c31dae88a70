use Rattle.std.proofs.Common.{Bool, sym, ◌∙◌, subst}
use Rattle.number.proofs.BoolLaws.{and_left, and_right}
use Rattle.strip.specs.Place.{is_run, Stepped}
use Rattle.bits.specs.Bits.{pull, rest}
use Rattle.strip.proofs.operations.step.Goals as goal

pub returns-then-run_left : goal.returns-then-run_left
returns-then-run_left c = λ s held full.
    let a = c.args in
    let is-run = sym (c.run_left.ensures s full) ∙ c.if-run_left.true in
    let ahead = is_run (pull 5 (rest s a.st.cur)) in
    subst (λ (q : Bool). Stepped q a.w a.total s a.st c.run.result) (sym (and_left a.second ahead is-run))
    (c.run.ensures a.w s held full (and_right a.second ahead is-run))

pub returns : goal.returns
returns c = λ s held full. c.one.ensures s held full (sym (c.run_left.ensures s full) ∙ c.if-run_left.false)
