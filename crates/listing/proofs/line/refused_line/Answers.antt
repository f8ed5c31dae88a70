use Rattle.std.proofs.Common.{length-append, arith}
use Rattle.listing.proofs.PutLaws.{put_then}
use Rattle.listing.specs.Listing.{refused_line}
use Rattle.listing.proofs.line.refused_line.Goals as goal

pub number-end-requires : goal.number-end-requires
unfolding refused_line
number-end-requires c =
    let room = simp length-append at c.requires in
    omega arith

pub text-requires : goal.text-requires
unfolding refused_line
text-requires c =
    let pre = c.requires in
    let room = simp length-append at pre in
    omega arith

pub returns : goal.returns
unfolding refused_line
returns c = put_then c.number-end.ensures c.text.ensures
