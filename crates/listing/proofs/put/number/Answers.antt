use Rattle.std.proofs.Common.{length-append, arith}
use Rattle.listing.proofs.PutLaws.{put_then}
use Rattle.listing.specs.Listing.{field}
use Rattle.listing.proofs.put.number.Goals as goal

pub text-end-requires : goal.text-end-requires
unfolding field
text-end-requires c =
    let room = rw length-append at c.requires in
    omega arith

pub decimal-requires : goal.decimal-requires
unfolding field
decimal-requires c =
    let room = rw length-append at c.requires in
    omega arith

pub returns : goal.returns
unfolding field
returns c = put_then c.text-end.ensures c.decimal.ensures
