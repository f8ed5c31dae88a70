use Rattle.verdict.proofs.VerdictLaws.{judged_agree}
use Rattle.verdict.proofs.judge.judge.Goals as goal

-- `verdict::judge::judge` meets its contract. Assumes nothing.

pub returns-in-Make : goal.returns-in-Make
returns-in-Make c =
    rw c.in-Make.is
    (judged_agree _ c.args.r _ c.requires.ready.1 _ _ c.requires.ready.0 (c.judge_step.ensures _ c.judge_steps.ensures))

pub returns-in-TakeBack : goal.returns-in-TakeBack
returns-in-TakeBack c =
    rw c.in-TakeBack.is (judged_agree _ c.args.r _ c.requires.ready.1 _ _ c.requires.ready.0 c.judge_steps.ensures)
