use Rattle.std.proofs.Common.{◌≡◌, ap, ◌∙◌, arith}
use Rattle.std.specs.Int.{from_bool}
use Rattle.compare.specs.Tables.{table_at}
use Rattle.compare.proofs.PlaceLaws.{listed_start, listed_next, listed-few}
use Rattle.compare.proofs.places.count_places.Goals as goal

-- `compare::places::count_places` meets its contract. Assumes nothing.

pub loop-k-init : goal.loop-k-init
loop-k-init c = (listed_start _, omega arith)

pub loop-k-preserved : goal.loop-k-preserved
loop-k-preserved c =
    let f = table_at c.args.counts.now c.args.marks.now in
    let next = listed_next f _ _ _ c.loop-k.invariant.0 (c.from-count.ensures ∙ ap from_bool c.is_off.ensures) in
    (next, rw next (listed-few f _))

pub returns : goal.returns
returns c =
    let all : c.loop-k.k ≡ c.args.n = omega arith in
    (rw all at c.loop-k.invariant.0, omega arith)

pub is_off-requires : goal.is_off-requires
is_off-requires c = (omega arith, omega arith)
