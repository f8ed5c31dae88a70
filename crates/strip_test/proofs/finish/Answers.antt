use Rattle.std.proofs.Common.{arith, sym, ◌∙◌, ◌-◌}
use Rattle.strip_test.proofs.SkipLaws.{outcome-end}
use Rattle.bits.specs.Bits.{rest}
use Rattle.strip_test.proofs.finish.Goals as goal

pub returns : goal.returns
returns c =
    let loop = c.loop-st in let a = c.args in
    sym (loop.invariant.2 ∙ outcome-end a.way.second a.way.w (a.total - loop.st.i) (rest a.body.now loop.st.cur) (omega arith))
