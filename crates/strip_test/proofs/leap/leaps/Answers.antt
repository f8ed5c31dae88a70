use Rattle.std.proofs.Common.{arith}
use Rattle.strip_test.proofs.LeapLaws.{leapt_none, leapt_on}
use Rattle.strip_test.proofs.leap.leaps.Goals as goal

pub loop-to-init : goal.loop-to-init
loop-to-init c =
    let a = c.args in let pre = c.requires in (
      omega (arith, pre.1),
      omega (arith, pre.3, pre.4),
      λ w le table. leapt_none a.second w a.total a.body.now a.from pre.3 pre.2,
    )

pub roomy-requires : goal.roomy-requires
roomy-requires c = (c.loop-to.invariant.0, c.loop-to.invariant.1)

pub leap-to-requires : goal.leap-to-requires
leap-to-requires c =
    let end = c.bits_of-end.ensures in let pre = c.requires in
    let ok = c.roomy.ensures c.loop-to-test.true in
    let end0 = end.0 in
    let end1 = end.1 in
    let ok0 = ok.0 in
    (pre.0, omega (arith, end0, ok0), pre.4, record { bits = omega (arith, end1, ok0); pixels = ok.1 })

pub returns-then-to-s : goal.returns-then-to-s
returns-then-to-s c = c.loop-to.invariant.2

pub loop-to-smaller : goal.loop-to-smaller
loop-to-smaller c =
    let ok = c.roomy.ensures c.loop-to-test.true in
    omega (arith, ok.1, c.if-to-s.false)

pub loop-to-preserved : goal.loop-to-preserved
loop-to-preserved c =
    let leap = c.leap-to in let loop = c.loop-to in let end = c.bits_of-end.ensures in
    let a = c.args in
    let ok = c.roomy.ensures c.loop-to-test.true in
    let f = leap.ensures in (
      omega (arith, f.0, ok.0, end.0),
      omega (arith, f.1, ok.1, c.requires.4),
      λ w le table. leapt_on a.second w a.total a.body.now a.from loop.s leap.result (loop.invariant.2 w le table) (f.2 w le table),
    )

pub returns : goal.returns
returns c = c.loop-to.invariant.2
