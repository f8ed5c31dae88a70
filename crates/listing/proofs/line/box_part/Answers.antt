use Rattle.std.proofs.Common.{length-append, arith}
use Rattle.listing.proofs.PutLaws.{put_then}
use Rattle.listing.specs.Listing.{box_part}
use Rattle.listing.proofs.line.box_part.Goals as goal

pub number-x-requires : goal.number-x-requires
unfolding box_part
number-x-requires c =
    let room = simp length-append at c.requires.text_fits in
    omega arith

pub number-y-requires : goal.number-y-requires
unfolding box_part
number-y-requires c =
    let pre = c.requires in
    let room = simp length-append at pre.text_fits in
    omega arith

pub number-width-requires : goal.number-width-requires
unfolding box_part
number-width-requires c =
    let pre = c.requires in
    let room = simp length-append at pre.text_fits in
    omega arith

pub number-requires : goal.number-requires
unfolding box_part
number-requires c =
    let pre = c.requires in
    let room = simp length-append at pre.text_fits in
    omega arith

pub returns : goal.returns
unfolding box_part
returns c =
    let number4 = c.number in let number3 = c.number-width in let number2 = c.number-y in let number = c.number-x in
    put_then (put_then (put_then number.ensures number2.ensures) number3.ensures) number4.ensures
