use Rattle.std.proofs.Common.{arith}
use Rattle.block_writer.proofs.SourceLaws.{pixels_few, rows_few}
use Rattle.block_writer.proofs.Source.body_size.Goals as goal

pub write_rows-requires-clause-room : goal.write_rows-requires-clause-room
write_rows-requires-clause-room c = omega (arith, rows_few c.args.self.now c.args.k c.if-self.true, c.args.self.now.given.high)

pub returns-then-self-clause-few : goal.returns-then-self-clause-few
returns-then-self-clause-few c =
    omega (arith, c.write_rows.ensures.len, rows_few c.args.self.now c.args.k c.if-self.true, c.args.self.now.given.high)

pub returns-else-self-clause-few : goal.returns-else-self-clause-few
returns-else-self-clause-few c =
    omega (arith, c.pixels_size.ensures, pixels_few c.args.self.now c.args.k c.if-self.false, c.args.self.now.given.high)
