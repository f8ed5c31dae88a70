use Rattle.std.proofs.Common.{◌≡◌, arith}
use Rattle.compare.proofs.CountLaws.{differing-start, differing-next, differing-few}
use Rattle.compare.proofs.count.unequal.Goals as goal

-- `compare::count::unequal` meets its contract. Assumes nothing.

pub loop-i-init : goal.loop-i-init
loop-i-init c = (differing-start _ _, omega arith)

pub loop-i-preserved : goal.loop-i-preserved
loop-i-preserved c =
    let next = differing-next _ _ _ _ _ c.loop-i.invariant.0 c.from-count.ensures in
    (next, rw next (differing-few _ _ _))

pub returns : goal.returns
returns c =
    let all : c.loop-i.i ≡ c.args.n = omega arith in record {
      count = rw all at c.loop-i.invariant.0;
      at_most_n = omega arith;
    }
