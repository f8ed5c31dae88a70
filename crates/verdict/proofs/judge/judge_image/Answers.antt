use Rattle.std.proofs.Common.{arith}
use Rattle.verdict.proofs.VerdictLaws.{judged_drawn, judged-new}
use Rattle.verdict.proofs.judge.judge_image.Goals as goal

-- `verdict::judge::judge_image` meets its contract. Assumes nothing.

pub returns-then-o-eq0 : goal.returns-then-o-eq0
returns-then-o-eq0 c =
    λ p h j. judged_drawn _ c.args.ready.room _ h c.args.o c.args.s p (λ w e. omega (arith, c.then-o-eq0.either, w.first, w.last, w.lowest, w.highest)) j

pub returns-then-verdicts-at : goal.returns-then-verdicts-at
returns-then-verdicts-at c =
    λ p h j. judged-new _ c.args.ready.room _ h c.args.ready.ready.sound.counted c.args.o c.args.s _
    (record { first = omega arith; last = omega arith; lowest = omega arith; highest = omega arith })
    c.verdict_of.ensures p j

pub returns-else-verdicts-at : goal.returns-else-verdicts-at
returns-else-verdicts-at c =
    λ p h j. judged_drawn _ c.args.ready.room _ h c.args.o c.args.s p (λ w e. c.if-verdicts-at.false e) j
