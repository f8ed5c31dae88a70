use Rattle.std.proofs.Common.{length-append, arith}
use Rattle.listing.proofs.PutLaws.{put_then}
use Rattle.listing.specs.Listing.{room_line}
use Rattle.listing.proofs.line.room_line.Goals as goal

pub number-width-requires : goal.number-width-requires
unfolding room_line
number-width-requires c =
    let room = simp length-append at c.requires in
    omega arith

pub number-height-requires : goal.number-height-requires
unfolding room_line
number-height-requires c =
    let pre = c.requires in
    let room = simp length-append at pre in
    omega arith

pub number-planes-requires : goal.number-planes-requires
unfolding room_line
number-planes-requires c =
    let pre = c.requires in
    let room = simp length-append at pre in
    omega arith

pub number-objects-requires : goal.number-objects-requires
unfolding room_line
number-objects-requires c =
    let pre = c.requires in
    let room = simp length-append at pre in
    omega arith

pub text-requires : goal.text-requires
unfolding room_line
text-requires c =
    let pre = c.requires in
    let room = simp length-append at pre in
    omega arith

pub returns : goal.returns
unfolding room_line
returns c =
    let text = c.text in let number4 = c.number-objects in let number3 = c.number-planes in let number2 = c.number-height in let number = c.number-width in
    put_then (put_then (put_then (put_then number.ensures number2.ensures) number3.ensures) number4.ensures) text.ensures
