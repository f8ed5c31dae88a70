use Rattle.std.proofs.Common.{arith}
use Rattle.strip_test.proofs.LeapLaws.{leapt_none, leapt_on}
use Rattle.number.proofs.BoolLaws.{and_left, and_right}
use Rattle.strip_test.proofs.leap.leaps_in_two.Goals as goal

pub loop-to_a-init : goal.loop-to_a-init
loop-to_a-init c =
    let a = c.args in let pre = c.requires in (
      pre.2,
      omega (arith, pre.5, pre.6),
      pre.2,
      omega (arith, pre.5, pre.6),
      (λ w le table. leapt_none a.second_x w a.total a.x.now a.from pre.5 pre.3),
      (λ w le table. leapt_none a.second_y w a.total a.y.now a.from pre.5 pre.4),
    )

pub roomy-requires : goal.roomy-requires
roomy-requires c = (c.loop-to_a.invariant.0, c.loop-to_a.invariant.1)

pub roomy-requires-in-loop-to_a : goal.roomy-requires-in-loop-to_a
roomy-requires-in-loop-to_a c = (c.loop-to_a.invariant.2, c.loop-to_a.invariant.3)

pub leap-to_a-requires : goal.leap-to_a-requires
leap-to_a-requires c =
    let end = c.bits_of-end_x.ensures in
    let pre = c.requires in
    let ok = c.roomy.ensures (and_left c.roomy.result c.roomy-in-loop-to_a.result c.loop-to_a-test.true) in
    let end0 = end.0 in
    let end1 = end.1 in
    let ok0 = ok.0 in
    (pre.0, omega (arith, end0, ok0), pre.6, record { bits = omega (arith, end1, ok0); pixels = ok.1 })

pub leap-to_b-requires : goal.leap-to_b-requires
leap-to_b-requires c =
    let end = c.bits_of-end_y.ensures in
    let pre = c.requires in
    let ok = c.roomy-in-loop-to_a.ensures (and_right c.roomy.result c.roomy-in-loop-to_a.result c.loop-to_a-test.true) in
    let end0 = end.0 in
    let end1 = end.1 in
    let ok0 = ok.0 in
    (pre.1, omega (arith, end0, ok0), pre.6, record { bits = omega (arith, end1, ok0); pixels = ok.1 })

pub returns-then-to_a-a : goal.returns-then-to_a-a
returns-then-to_a-a c =
    let loop = c.loop-to_a in
    let inv = loop.invariant in
    (inv.0, inv.2, inv.4, inv.5)

pub loop-to_a-smaller : goal.loop-to_a-smaller
loop-to_a-smaller c =
    let ok = c.roomy.ensures (and_left c.roomy.result c.roomy-in-loop-to_a.result c.loop-to_a-test.true) in
    omega (arith, ok.1, c.if-to_a-a.false)

pub loop-to_a-preserved : goal.loop-to_a-preserved
loop-to_a-preserved c =
    let leap2 = c.leap-to_b in let leap = c.leap-to_a in
    let loop = c.loop-to_a in
    let end-y = c.bits_of-end_y.ensures in let end-x = c.bits_of-end_x.ensures in
    let a = c.args in
    let ok-x = c.roomy.ensures (and_left c.roomy.result c.roomy-in-loop-to_a.result c.loop-to_a-test.true) in
    let ok-y = c.roomy-in-loop-to_a.ensures (and_right c.roomy.result c.roomy-in-loop-to_a.result c.loop-to_a-test.true) in
    let f = leap.ensures in
    let g = leap2.ensures in (
      omega (arith, f.0, ok-x.0, end-x.0),
      omega (arith, f.1, ok-x.1, c.requires.6),
      omega (arith, g.0, ok-y.0, end-y.0),
      omega (arith, g.1, ok-y.1, c.requires.6),
      (λ w le table. leapt_on a.second_x w a.total a.x.now a.from loop.a leap.result (loop.invariant.4 w le table) (f.2 w le table)),
      (λ w le table. leapt_on a.second_y w a.total a.y.now a.from loop.b leap2.result (loop.invariant.5 w le table) (g.2 w le table)),
    )

pub returns : goal.returns
returns c = let inv = c.loop-to_a.invariant in (inv.0, inv.2, inv.4, inv.5)
