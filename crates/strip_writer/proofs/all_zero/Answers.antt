use Rattle.strip_writer.proofs.CountLaws.{zero-end, zero_more}
use Rattle.strip_writer.proofs.all_zero.Goals as goal

pub loop-row-preserved : goal.loop-row-preserved
loop-row-preserved c = zero_more _ c.loop-row.zero _ c.args.rows.now c.loop-row.invariant c.loop-row-test.true

pub returns : goal.returns
returns c = zero-end _ c.loop-row.zero _ c.args.rows.now c.loop-row.invariant c.loop-row-test.false
