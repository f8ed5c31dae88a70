use Rattle.stored.specs.Bytes.{down, step_at}
use Rattle.verdict.specs.Verdict.{Judged}
use Rattle.verdict.proofs.judge.judge_steps.Given as goal

abbrev pub invariant-loop-i : goal.invariant-loop-i
invariant-loop-i l = Judged l.ready.bytes.now l.ready.room l.verdicts (down (step_at l.session) l.i)
