use Rattle.verdict.proofs.VerdictLaws.{judged_step, judged_hidden}
use Rattle.verdict.proofs.judge.judge_step.Goals as goal

-- `verdict::judge::judge_step` meets its contract. Assumes nothing.

pub returns-in-Draw : goal.returns-in-Draw
returns-in-Draw c =
    judged_step _ c.args.ready.room _ _ _ _ _ _ _ _ c.in-Draw.is c.wide_u32.ensures.0 c.wide_u32-in-Draw.ensures.0 c.judge_image.ensures

pub returns-in-Hide : goal.returns-in-Hide
returns-in-Hide c = λ h j. rw c.in-Hide.is (judged_hidden _ c.args.ready.room _ h _ j)
