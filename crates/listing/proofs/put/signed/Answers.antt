use Rattle.std.proofs.Common.{w32, length-append, arith}
use mir.ValLaws.{to_z-of_z}
use Rattle.listing.proofs.DecimalLaws.{signed-minus, signed_plain}
use Rattle.listing.proofs.PutLaws.{put_then}
use Rattle.listing.specs.Listing.{signed_field}
use Rattle.listing.proofs.put.signed.Goals as goal

pub text-end-requires : goal.text-end-requires
unfolding signed_field
text-end-requires c =
    let room = rw length-append at c.requires in
    omega arith

pub number-requires : goal.number-requires
unfolding signed_field
number-requires c =
    let if1 = c.if-below-gt0 in let behind-of = c.behind_of-below in
    let args = c.args in
    let fits = c.ranges in let pre = c.requires in
    let e = signed-minus args.n behind-of.result (rw (to_z-of_z w32 args.n fits.n) at behind-of.ensures).0 if1.true in
    let room = rw (length-append, ← e) at pre in
    omega arith

pub returns-then-below-gt0 : goal.returns-then-below-gt0
unfolding signed_field
returns-then-below-gt0 c =
    let number = c.number in let if1 = c.if-below-gt0 in
    let behind-of = c.behind_of-below in let text = c.text-end in
    let args = c.args in let fits = c.ranges in
    let e = signed-minus args.n behind-of.result (rw (to_z-of_z w32 args.n fits.n) at behind-of.ensures).0 if1.true in
    put_then text.ensures (rw e at number.ensures)

pub decimal-requires : goal.decimal-requires
unfolding signed_field
decimal-requires c =
    let if1 = c.if-below-gt0 in let behind-of = c.behind_of-below in
    let args = c.args in
    let fits = c.ranges in let pre = c.requires in
    let e = signed_plain args.n behind-of.result c.ahead_of.result (rw (to_z-of_z w32 args.n fits.n) at behind-of.ensures).0 if1.false
    (rw (to_z-of_z w32 args.n fits.n) at c.ahead_of.ensures).0 in
    let room = rw (length-append, ← e) at pre in
    omega arith

pub returns : goal.returns
unfolding signed_field
returns c =
    let decimal = c.decimal in let ahead_of_lem = c.ahead_of in
    let if1 = c.if-below-gt0 in let behind-of = c.behind_of-below in
    let text = c.text-end in
    let args = c.args in let fits = c.ranges in
    let e = signed_plain args.n behind-of.result ahead_of_lem.result (rw (to_z-of_z w32 args.n fits.n) at behind-of.ensures).0 if1.false
    (rw (to_z-of_z w32 args.n fits.n) at ahead_of_lem.ensures).0 in
    put_then text.ensures (rw e at decimal.ensures)
