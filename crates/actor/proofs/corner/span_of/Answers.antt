use Rattle.std.proofs.Common.{w32}
use mir.ValLaws.{to_z-of_z}
use Rattle.actor.proofs.corner.span_of.Goals as goal

-- `actor::corner::span_of` meets its contract. Assumes nothing.

pub returns : goal.returns
returns c =
    let e = to_z-of_z w32 c.args.x c.ranges.x in
    let s = rw e at c.ahead_of-start.ensures.0 in
    let k = rw e at c.behind_of-skip.ensures.0 in
    record { start = s; skip = k; count = rw (s, k) at c.count_of-count.ensures }
