use Rattle.std.proofs.Common.{◌≡◌, sym, ap, ◌∙◌, ◌+◌, length, length-append, arith}
use Rattle.listing.proofs.LineLaws.{lines_none, lines_more, lines_grow}
use Rattle.listing.proofs.PutLaws.{put_none, put_as, put_then}
use Rattle.objects.specs.Object.{object_block}
use Rattle.listing.specs.Listing.{object_lines, line_in}
use Rattle.listing.proofs.line.object_lines.Goals as goal

pub loop-k-init : goal.loop-k-init
loop-k-init c = put_none _ _ (sym (lines_none _))

pub object-end-requires : goal.object-end-requires
object-end-requires c =
    let s = c.args.room.now in
    let k = c.loop-k.k in
    let more = ap length (lines_more s k) ∙ length-append (object_lines s k) (line_in s (k + 1) (object_block s (k + 1))) in
    let grow = lines_grow s (k + 1) c.args.count (omega arith) in
    let p = c.loop-k.invariant in
    omega (arith, more, grow, p.ends, p.same, c.requires)

pub loop-k-preserved : goal.loop-k-preserved
loop-k-preserved c =
    let object = c.object-end in let loop = c.loop-k in
    put_as (sym (lines_more _ _)) (put_then loop.invariant object.ensures)

pub shape_of-out : goal.shape_of-out
shape_of-out c = c.loop-k.invariant.same

pub returns : goal.returns
returns c =
    let all : c.loop-k.k ≡ c.args.count = omega arith in
    put_as (ap (object_lines c.args.room.now) all) c.loop-k.invariant
