use Rattle.std.proofs.Common.{arith, suc, ◌+◌, ◌-◌, ◌≡◌, sym, ◌∙◌}
use Rattle.table.proofs.BodyLaws.{end_none, end_here, end_on}
use Rattle.table.proofs.body_end.Goals as goal

pub returns-then-offset-ne0 : goal.returns-then-offset-ne0
returns-then-offset-ne0 c =
    let loop = c.loop-j in let args = c.args in
    let more : args.n - loop.j ≡ suc (args.n - (loop.j + 1)) = omega arith in
    sym (end_here _ _ _ _ _ _ _ _ more c.offset_at-offset.ensures.0 c.if-offset-ne0.true) ∙ loop.invariant

pub loop-j-preserved : goal.loop-j-preserved
loop-j-preserved c =
    let loop = c.loop-j in let args = c.args in
    let more : args.n - loop.j ≡ suc (args.n - (loop.j + 1)) = omega arith in
    sym (end_on _ _ _ _ _ _ _ _ more c.offset_at-offset.ensures.0 c.if-offset-ne0.false) ∙ loop.invariant

pub returns : goal.returns
returns c = sym (end_none _ _ _ _ _ _ (omega arith)) ∙ c.loop-j.invariant
