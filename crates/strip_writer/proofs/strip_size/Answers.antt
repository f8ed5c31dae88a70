use Rattle.std.proofs.Common.{◌≡◌, ◌+◌, ◌-◌, length, get_or, ap, arith}
use Rattle.strip_writer.proofs.WritingLaws.{length-strip, ops_end, count-more}
use Rattle.strip_writer.proofs.SizeLaws.{bits-few}
use Rattle.strip_writer.proofs.strip_size.Goals as goal

pub overflow_add-bits : goal.overflow_add-bits
overflow_add-bits c =
    let loop = c.loop-i in let args = c.args in
    omega (arith, c.op_size-bits.ensures, bits-few (get_or args.px.now (loop.i - 1) 0) 1 (get_or args.px.now loop.i 0))

pub loop-i-preserved : goal.loop-i-preserved
loop-i-preserved c =
    let loop-test = c.loop-i-test in let loop = c.loop-i in
    let args = c.args in
    let px = args.px.now in
    let i = loop.i in
    let k = count-more px (get_or px (i - 1) 0) i loop-test.true in
    let e : i + 1 - 1 ≡ i = omega arith in
    let b = bits-few (get_or px (i - 1) 0) 1 (get_or px i 0) in
    (omega arith, omega arith, omega (arith, b, c.op_size-bits.ensures), rw e (omega (arith, k, c.op_size-bits.ensures, loop.invariant.3)))

pub returns : goal.returns
returns c =
    let px = c.args.px.now in
    let l = c.loop-i in
    let z = ap length (ops_end (get_or px (l.i - 1) 0) 1 px l.i c.loop-i-test.false) in
    let wide : c.from.result ≡ l.bits = cc in
    omega (arith, z, wide, l.invariant.3, length-strip px c.requires.0)
