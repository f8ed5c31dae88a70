use Rattle.std.proofs.Common.{arith, refl, length-append}
use Rattle.listing.proofs.DecimalLaws.{decimal-low, decimal-high}
use Rattle.listing.proofs.PutLaws.{put_none, put_byte}
use Rattle.listing.proofs.put.+decimal.Goals as goal

pub bounds-out-at : goal.bounds-out-at
bounds-out-at t c =
    let room = rw (decimal-low c.args.n (omega arith)) at c.requires in
    omega arith

pub overflow_add-result : goal.overflow_add-result
overflow_add-result t c =
    let room = rw (decimal-low c.args.n (omega arith)) at c.requires in
    omega arith

pub returns-then-n-lt10 : goal.returns-then-n-lt10
returns-then-n-lt10 t c = rw (decimal-low c.args.n (omega arith)) (put_byte (put_none _ _ refl) _)

pub decimal-end-requires : goal.decimal-end-requires
decimal-end-requires t c =
    let room = rw (decimal-high c.args.n (omega arith), length-append) at c.requires in
    (omega arith, omega arith)

pub bounds-out-end : goal.bounds-out-end
bounds-out-end t c =
    let room = rw (decimal-high c.args.n (omega arith), length-append) at c.requires in
    omega arith

pub overflow_add-result-2 : goal.overflow_add-result-2
overflow_add-result-2 t c =
    let room = rw (decimal-high c.args.n (omega arith), length-append) at c.requires in
    omega arith

pub returns : goal.returns
returns t c = rw (decimal-high c.args.n (omega arith)) (put_byte c.decimal-end.ensures _)
