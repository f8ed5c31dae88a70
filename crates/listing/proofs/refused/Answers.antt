use Rattle.std.proofs.Common.{arith}
use Rattle.listing.specs.Listing.{refused_line}
use Rattle.listing.proofs.SizeLaws.{refused-short}
use Rattle.listing.proofs.CallLaws.{written_none, written_all}
use Rattle.listing.proofs.refused.Goals as goal

pub returns-then-out-lt-SIZE : goal.returns-then-out-lt-SIZE
returns-then-out-lt-SIZE c = record {
  count_fits = (written_none (refused_line c.args.number) c.args.out.now c.if-out-lt-SIZE.true).0;
  count = (written_none (refused_line c.args.number) c.args.out.now c.if-out-lt-SIZE.true).1.0;
  text_after = (written_none (refused_line c.args.number) c.args.out.now c.if-out-lt-SIZE.true).1.1;
}

pub refused_line-requires : goal.refused_line-requires
refused_line-requires c = omega (arith, refused-short c.args.number (omega arith))

pub returns : goal.returns
returns c =
    let refused-line = c.refused_line in let if1 = c.if-out-lt-SIZE in
    let args = c.args in record {
      count_fits = (written_all if1.false (omega (arith, refused-short args.number (omega arith))) refused-line.ensures).0;
      count = (written_all if1.false (omega (arith, refused-short args.number (omega arith))) refused-line.ensures).1.0;
      text_after = (written_all if1.false (omega (arith, refused-short args.number (omega arith))) refused-line.ensures).1.1;
    }
