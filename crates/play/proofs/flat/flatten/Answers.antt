use Rattle.std.proofs.Common.{length-set, arith, ◌≡◌, refl}
use Rattle.play.proofs.FlatLaws.{flat_more}
use Rattle.layers.specs.Decoded.{entries_of}
use Rattle.play.proofs.flat.flatten.Goals as goal

pub loop-i-init : goal.loop-i-init
unfolding entries_of
loop-i-init c = refl

pub bounds-out-at-in-loop-i : goal.bounds-out-at-in-loop-i
bounds-out-at-in-loop-i c = simp length-set (omega arith)

pub bounds-out-at-in-loop-i-2 : goal.bounds-out-at-in-loop-i-2
bounds-out-at-in-loop-i-2 c = simp length-set (omega arith)

pub bounds-out-at-in-loop-i-3 : goal.bounds-out-at-in-loop-i-3
bounds-out-at-in-loop-i-3 c = simp length-set (omega arith)

pub loop-i-preserved : goal.loop-i-preserved
loop-i-preserved c =
    let loop = c.loop-i in
    flat_more loop.out c.args.s.list loop.i (omega arith) (omega arith) loop.invariant

pub returns : goal.returns
returns c =
    let all : c.loop-i.i ≡ c.args.s.n = omega arith in
    rw all at c.loop-i.invariant
