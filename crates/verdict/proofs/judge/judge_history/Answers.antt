use Rattle.verdict.proofs.VerdictLaws.{judged_agree}
use Rattle.verdict.proofs.judge.judge_history.Goals as goal

-- `verdict::judge::judge_history` meets its contract. Assumes nothing.

pub returns : goal.returns
returns c =
    judged_agree _ c.args.r _ c.requires.ready.1 _ _ c.requires.ready.0 c.judge_steps.ensures
