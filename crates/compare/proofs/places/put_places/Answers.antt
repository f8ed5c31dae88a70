use Rattle.std.proofs.Common.{◌+◌, ◌≡◌, ◌∙◌, arith}
use Rattle.compare.specs.Compare.{listed_to}
use Rattle.compare.specs.Tables.{table_at}
use Rattle.compare.proofs.PlaceLaws.{listed-few, listed-length, listed_grows, bytes-start, bytes-more, bytes-over}
use Rattle.compare.proofs.places.put_places.Goals as goal

-- `compare::places::put_places` meets its contract. Assumes nothing.

pub loop-k-init : goal.loop-k-init
unfolding listed_to
loop-k-init c = (omega arith, bytes-start (table_at c.args.counts.now c.args.marks.now) _)

pub put_next-at-requires : goal.put_next-at-requires
put_next-at-requires c =
    let loop = c.loop-k in
    let at = loop.invariant.0 in
    let f = table_at c.args.counts.now c.args.marks.now in
    let one = listed-length f loop.k in
    let all = listed_grows f (loop.k + 1) c.args.n (omega arith) in
    let few = listed-few f loop.k in record {
      place_fits = (omega (arith, one, all, loop.auto.list, at, c.requires.places_fit), omega (arith, few, at, c.requires.strips_counted));
      strip_counted = (omega (arith, c.requires.strips_counted), omega (arith, c.requires.strips_counted));
    }

pub loop-k-preserved : goal.loop-k-preserved
loop-k-preserved c =
    let loop = c.loop-k in
    let put = c.put_next-at in
    let inv = loop.invariant in
    let f = table_at c.args.counts.now c.args.marks.now in (
      omega (arith, listed-length f loop.k, inv.0, put.ensures.next_place),
      bytes-more f loop.k _ _ _ _ inv.0 inv.1 put.ensures.place_put,
    )

pub returns : goal.returns
returns c =
    let loop = c.loop-k in
    let done : loop.k ≡ c.args.n = omega arith in
    (rw done at loop.invariant.1) ∙ bytes-over _ _ c.requires.places_fit
