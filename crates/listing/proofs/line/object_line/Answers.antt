use Rattle.std.proofs.Common.{length-append, arith}
use Rattle.listing.proofs.PutLaws.{put_then}
use Rattle.listing.specs.Listing.{object_line}
use Rattle.listing.proofs.line.object_line.Goals as goal

pub number-object-requires : goal.number-object-requires
unfolding object_line
number-object-requires c =
    let room = simp length-append at c.requires.text_fits in
    omega arith

pub number-id-requires : goal.number-id-requires
unfolding object_line
number-id-requires c =
    let pre = c.requires in
    let room = simp length-append at pre.text_fits in
    omega arith

pub box_part-place-requires : goal.box_part-place-requires
unfolding object_line
box_part-place-requires c =
    let pre = c.requires in
    let room = simp length-append at pre.text_fits in record {
      text_fits = omega arith;
      box_of_bytes = pre.box_of_bytes;
    }

pub walk_part-walk-requires : goal.walk_part-walk-requires
unfolding object_line
walk_part-walk-requires c =
    let pre = c.requires in
    let room = simp length-append at pre.text_fits in
    omega arith

pub text-requires : goal.text-requires
unfolding object_line
text-requires c =
    let pre = c.requires in
    let room = simp length-append at pre.text_fits in
    omega arith

pub returns : goal.returns
unfolding object_line
returns c =
    let text = c.text in let walk-part = c.walk_part-walk in let box-part = c.box_part-place in let number2 = c.number-id in let number = c.number-object in
    put_then (put_then (put_then (put_then number.ensures number2.ensures) box-part.ensures) walk-part.ensures) text.ensures
