use Rattle.std.proofs.Common.{◌≡◌, suc, ◌+◌, ◌-◌, arith}
use Rattle.block_writer.proofs.BoundLaws.{sum_step, sum_stop}
use Rattle.block_writer.specs.Source.{body_of}
use Rattle.block_writer.proofs.Source.bodies_size.Goals as goal

pub loop-k-preserved : goal.loop-k-preserved
loop-k-preserved c =
    let a = c.args.self.now in let s = c.loop-k.k in
    let e : a.n - s ≡ suc (a.n - (s + 1)) = omega arith in
    let k = sum_step (body_of a) s (a.n - s) (a.n - (s + 1)) e in
    let r = c.body_size-sum.ensures in
    (omega arith, omega (arith, r.few), omega (arith, k, r.len, c.loop-k.invariant.2))

pub returns-clause-len : goal.returns-clause-len
returns-clause-len c =
    let a = c.args.self.now in let s = c.loop-k.k in
    omega (arith, sum_stop (body_of a) s (a.n - s) (omega arith), c.loop-k.invariant.2)
