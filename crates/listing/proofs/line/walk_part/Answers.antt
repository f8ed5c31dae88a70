use Rattle.std.proofs.Common.{w32, length-append, arith}
use mir.ValLaws.{to_z-of_z}
use Rattle.listing.proofs.PutLaws.{put_then}
use Rattle.listing.specs.Listing.{walk_part}
use Rattle.listing.proofs.line.walk_part.Goals as goal

pub signed-x-requires : goal.signed-x-requires
unfolding walk_part
signed-x-requires c =
    let x = to_z-of_z w32 c.args.h.walkx (record { sfits = c.struct_told-1.given.1.1.1.1.1.1.1.0.1 }) in
    let room = simp length-append at c.requires in
    rw x (omega arith)

pub signed-requires : goal.signed-requires
unfolding walk_part
signed-requires c =
    let signed = c.signed-x in
    let struct_told = c.struct_told-1 in let args = c.args in let pre = c.requires in
    let x = to_z-of_z w32 args.h.walkx (record { sfits = struct_told.given.1.1.1.1.1.1.1.0.1 }) in
    let y = to_z-of_z w32 args.h.walky (record { sfits = struct_told.given.1.1.1.1.1.1.1.1.0.1 }) in
    let room = simp length-append at pre in
    let ends = rw x at signed.ensures in
    rw y (omega (arith, ends.ends, ends.same))

pub returns : goal.returns
unfolding walk_part
returns c =
    let signed2 = c.signed in let signed = c.signed-x in let struct_told = c.struct_told-1 in
    let args = c.args in
    let x = to_z-of_z w32 args.h.walkx (record { sfits = struct_told.given.1.1.1.1.1.1.1.0.1 }) in
    let y = to_z-of_z w32 args.h.walky (record { sfits = struct_told.given.1.1.1.1.1.1.1.1.0.1 }) in
    put_then (rw x at signed.ensures) (rw y at signed2.ensures)
