use Rattle.std.proofs.Common.{refl, ◌∙◌, zero-le, arith}
use Rattle.strip_writer.proofs.RowOpLaws.{row_ops_end}
use Rattle.strip_writer.proofs.BitWriterLaws.{further}
use Rattle.strip_writer.proofs.write_ops.Goals as goal

pub loop-y-init : goal.loop-y-init
loop-y-init c = (zero-le, refl, refl, omega arith, refl)

pub write_op-next-requires : goal.write_op-next-requires
write_op-next-requires c = (c.loop-y-test.true, c.loop-y.invariant.3)

pub loop-y-smaller : goal.loop-y-smaller
loop-y-smaller c = omega (arith, c.write_op-next.ensures.more, c.write_op-next.ensures.inside)

pub loop-y-preserved : goal.loop-y-preserved
loop-y-preserved c =
    let write-op = c.write_op-next in let loop = c.loop-y in
    let args = c.args in
    let w = write-op.ensures in
    let i = loop.invariant in
    (w.inside, w.whole ∙ i.1, w.past ∙ further loop.out args.out.now _ _ w.on i.2, w.room, i.4 ∙ w.same)

pub shape_of-out : goal.shape_of-out
shape_of-out c = c.loop-y.invariant.1

pub returns : goal.returns
returns c =
    let loop = c.loop-y in let args = c.args in
    row_ops_end args.rows.now loop.out args.out.now _ _ c.loop-y-test.false loop.invariant.3 loop.invariant.2 loop.invariant.4
