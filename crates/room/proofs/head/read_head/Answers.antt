use Rattle.std.proofs.Common.{◌≡◌, Some, rules}
use Rattle.room.proofs.HeadLaws.{parts_lie}
use Rattle.room.specs.Head.{needed_in}
use Rattle.room.proofs.head.read_head.Goals as goal

pub room_of-requires-clause-headers_inside : goal.room_of-requires-clause-headers_inside
room_of-requires-clause-headers_inside c =
    let found : Some c.in_ok-parts.parts ≡ needed_in c.args.s.now = search rules in
    let i = parts_lie _ _ found in
    (i.header-in, i.counts_in)
