use Rattle.std.proofs.Common.{arith, add-one, ◌≡◌}
use Rattle.verdict.proofs.VerdictLaws.{judged-none, judged-past, judged-all}
use Rattle.verdict.proofs.judge.judge_steps.Goals as goal

-- `verdict::judge::judge_steps` meets its contract. Assumes nothing.

pub returns-then-n-gt-MOST_STEPS : goal.returns-then-n-gt-MOST_STEPS
returns-then-n-gt-MOST_STEPS c =
    let fill = c.fill in
    let args = c.args in let pre = c.requires in
    judged-past _ args.ready.room _ _ (omega (arith, c.if-n-gt-MOST_STEPS.true, c.count-n.ensures.0))
    (judged-none _ args.ready.room _ args.ready.ready.sound.counted (omega (arith, pre.1)) fill.ensures.filled)

pub loop-i-init : goal.loop-i-init
loop-i-init c =
    judged-none _ c.args.ready.room _ c.args.ready.ready.sound.counted (omega (arith, c.requires.1)) c.fill.ensures.filled

pub step_at-requires : goal.step_at-requires
step_at-requires c = (omega (arith, c.if-n-gt-MOST_STEPS.false), c.requires.0)

pub judge_step-requires : goal.judge_step-requires
judge_step-requires c = c.loop-i.invariant.long

pub loop-i-preserved : goal.loop-i-preserved
loop-i-preserved c =
    rw (add-one c.loop-i.i, ← c.step_at.ensures) (c.judge_step.ensures _ c.loop-i.invariant)

pub returns : goal.returns
returns c =
    let loop = c.loop-i in let count = c.count-n in
    let e : loop.i ≡ count.result = omega arith in
    judged-all _ c.args.ready.room _ _ (omega (arith, c.if-n-gt-MOST_STEPS.false, count.ensures.0)) (rw (← count.ensures.0, ← e) loop.invariant)
