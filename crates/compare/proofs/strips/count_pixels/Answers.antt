use Rattle.std.proofs.Common.{arith}
use Rattle.number.proofs.StoreLaws.{table_more}
use Rattle.compare.specs.Compare.{pixels_differing}
use Rattle.compare.proofs.strips.count_pixels.Goals as goal

-- `compare::strips::count_pixels` meets its contract. Assumes nothing.

pub strip_pixels-requires : goal.strip_pixels-requires
strip_pixels-requires c = c.loop-k-test.true

pub offset_bounds-counts-k : goal.offset_bounds-counts-k
offset_bounds-counts-k c =
    omega (arith, c.loop-k-test.true, c.args.pair.comparable.first.sound.widest)

pub bounds-counts-k : goal.bounds-counts-k
bounds-counts-k c =
    omega (arith, c.loop-k.auto.counts, c.requires, c.args.pair.comparable.first.sound.widest)

pub loop-k-preserved : goal.loop-k-preserved
loop-k-preserved c =
    let loop = c.loop-k in
    table_more (pixels_differing _) loop.counts loop.k _ (omega (arith, loop.auto.counts, c.requires, c.args.pair.comparable.first.sound.widest)) loop.invariant
    c.strip_pixels.ensures

pub returns : goal.returns
returns c = λ k lt. c.loop-k.invariant k (omega arith)
