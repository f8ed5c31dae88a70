use Rattle.std.proofs.Common.{◌+◌, get_or, set, arith, length-set}
use Rattle.strip_writer.proofs.WritingLaws.{length-strip, writing_start, split_one, split_two, room_for, writing_more, writing_end, start-past}
use Rattle.strip_writer.proofs.SizeLaws.{unit_after, unit_step}
use Rattle.strip_writer.proofs.write_strip.Goals as goal

pub bounds-out-0 : goal.bounds-out-0
bounds-out-0 c = let l = length-strip c.args.px.now c.requires.0 in omega arith

pub bounds-out-1 : goal.bounds-out-1
bounds-out-1 c =
    let args = c.args in let pre = c.requires in
    let l = length-strip args.px.now pre.0 in omega (arith, length-set args.out.now 0 0x1C)

pub loop-i-init : goal.loop-i-init
loop-i-init c =
    let args = c.args in let pre = c.requires in
    writing_start args.px.now args.out.now pre.0 pre.1

pub op_pair-o-requires : goal.op_pair-o-requires
op_pair-o-requires c = c.loop-i.invariant.unit.rest

pub put_bits-writer-requires : goal.put_bits-writer-requires
put_bits-writer-requires c =
    let op-pair = c.op_pair-o in let loop-test = c.loop-i-test in
    let l = c.loop-i in let args = c.args in
    let o = op-pair.ensures in
    let s = split_two l.colour l.step args.px.now l.i loop-test.true op-pair.result o.0 o.3 in
    (l.invariant.low, l.invariant.few, o.2, o.1, room_for _ _ _ _ _ _ _ l.invariant _ _ (l.i + 2) _ _ s)

pub loop-i-preserved : goal.loop-i-preserved
loop-i-preserved c =
    let put-bits = c.put_bits-writer in let op-pair = c.op_pair-o in
    let loop-test = c.loop-i-test in let l = c.loop-i in let args = c.args in
    let px = args.px.now in
    let o = op-pair.ensures in
    let s = split_two l.colour l.step px l.i loop-test.true op-pair.result o.0 o.3 in
    let u = unit_after (get_or px l.i 0) _ (get_or px (l.i + 1) 0) _ (unit_step l.colour l.step (get_or px l.i 0) l.invariant.unit) o.3 in
    let p = put-bits.ensures in
    writing_more _ _ _ _ _ _ _ l.invariant _ _ (l.i + 2) _ _ s (omega arith) (omega (arith, loop-test.true)) u _ _ p.0 p.1 p.2

pub finish-requires : goal.finish-requires
finish-requires c =
    let loop = c.loop-i in
    (loop.invariant.low, loop.invariant.few, omega (arith, loop.invariant.room))

pub shape_of-out-then-px-i : goal.shape_of-out-then-px-i
shape_of-out-then-px-i c =
    let loop = c.loop-i in
    let args = c.args in
    omega (
      arith,
      c.out-then-px-i-1.given,
      loop.invariant.whole,
      length-set (set args.out.now 0 0x1C) 1 (get_or args.px.now 0 0),
      length-set args.out.now 0 0x1C,
    )

pub returns-then-px-i : goal.returns-then-px-i
returns-then-px-i c =
    let finish = c.finish in let if1 = c.if-px-i in
    let loop = c.loop-i in let args = c.args in
    let f = finish.ensures in
    writing_end _ _ args.out.now _ _ _ _ _ _ _ loop.invariant if1.true (λ n h. start-past args.out.now 0x1C _ n h) f.0 f.1 f.2 f.3

pub op_for-o-requires : goal.op_for-o-requires
op_for-o-requires c = c.loop-i.invariant.unit.rest

pub put_bits-writer-requires-2 : goal.put_bits-writer-requires-2
put_bits-writer-requires-2 c =
    let if1 = c.if-px-i in let l = c.loop-i in
    let args = c.args in
    let o = c.op_for-o.ensures in
    let s = split_one l.colour l.step args.px.now l.i if1.false _ o in
    (l.invariant.low, l.invariant.few, o.low, omega (arith, o.few), room_for _ _ _ _ _ _ _ l.invariant _ _ (l.i + 1) _ _ s)

pub finish-requires-2 : goal.finish-requires-2
finish-requires-2 c =
    let put-bits2 = c.put_bits-writer-2 in let op-for = c.op_for-o in let if1 = c.if-px-i in let l = c.loop-i in let args = c.args in
    let o = op-for.ensures in
    let s = split_one l.colour l.step args.px.now l.i if1.false _ o in
    let p = put-bits2.ensures in
    let w = writing_more _ _ _ _ _ _ _ l.invariant _ _ (l.i + 1) _ _ s (omega arith) (omega (arith, if1.false))
    (unit_after _ _ _ _ l.invariant.unit o.after) _ _
    p.0 p.1 p.2 in
    (w.low, w.few, omega (arith, w.room))

pub shape_of-out : goal.shape_of-out
shape_of-out c =
    let put-bits2 = c.put_bits-writer-2 in
    let loop = c.loop-i in
    let args = c.args in
    omega (
      arith,
      c.out-3-1.given,
      put-bits2.ensures.0.whole,
      loop.invariant.whole,
      length-set (set args.out.now 0 0x1C) 1 (get_or args.px.now 0 0),
      length-set args.out.now 0 0x1C,
    )

pub returns : goal.returns
returns c =
    let finish2 = c.finish-2 in let put-bits2 = c.put_bits-writer-2 in let op-for = c.op_for-o in
    let if1 = c.if-px-i in let loop-test = c.loop-i-test in
    let l = c.loop-i in let args = c.args in
    let o = op-for.ensures in
    let s = split_one l.colour l.step args.px.now l.i if1.false _ o in
    let p = put-bits2.ensures in
    let w = writing_more _ _ _ _ _ _ _ l.invariant _ _ (l.i + 1) _ _ s (omega arith) (omega (arith, if1.false))
    (unit_after _ _ _ _ l.invariant.unit o.after) _ _
    p.0 p.1 p.2 in
    let f = finish2.ensures in
    writing_end _ _ args.out.now _ _ _ _ _ _ _ w (omega (arith, loop-test.false)) (λ n h. start-past args.out.now 0x1C _ n h) f.0 f.1 f.2
    f.3
