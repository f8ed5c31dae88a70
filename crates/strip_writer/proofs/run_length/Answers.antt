use Rattle.std.proofs.Common.{◌≡◌, suc, ◌+◌, ◌-◌, arith}
use Rattle.strip_writer.proofs.CountLaws.{run-over, run_ends, run_breaks, run-goes}
use Rattle.strip_writer.proofs.run_length.Goals.{then-rows-y-via-then-rows-y, then-rows-y-via-else-rows-y+then-rows-y-2}
use Rattle.strip_writer.proofs.run_length.Goals as goal

pub returns-then-rows-y : goal.returns-then-rows-y
returns-then-rows-y c =
    elim c.then-rows-y.branch [
      | then-rows-y-via-then-rows-y w ↦ run_ends _ _ _ _ _ _ c.loop-n.invariant.2 w.if-rows-y.true
      | then-rows-y-via-else-rows-y+then-rows-y-2 w ↦ run_breaks _ _ _ _ _ _ c.loop-n.invariant.2 w.if-rows-y.false w.if-rows-y-2.true
    ]

pub loop-n-preserved : goal.loop-n-preserved
loop-n-preserved c =
    let if1 = c.if-rows-y in let loop = c.loop-n in
    let a = c.args in
    let n = loop.n in
    let s : 127 - n ≡ suc (127 - (n + 1)) = omega arith in
    let on : a.y + n + 1 ≡ a.y + (n + 1) = omega arith in
    (omega arith, omega arith, rw on at (run-goes _ _ _ _ _ _ loop.invariant.2 (127 - (n + 1)) s if1.false c.if-rows-y-2.false))

pub returns : goal.returns
returns c =
    let n : c.loop-n.n ≡ 127 = omega arith in
    rw n at (run-over _ (127 - c.loop-n.n) _ _ (c.args.y + c.loop-n.n) c.args.rows.now c.loop-n.invariant.2 (omega arith))
