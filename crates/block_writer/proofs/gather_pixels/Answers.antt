use Rattle.std.proofs.Common.{arith, ◌≡◌, ap, ◌∙◌, ◌+◌, ◌*◌, ◌≤◌, length, take}
use Rattle.block_writer.specs.Block.{strip_bytes}
use Rattle.block_writer.proofs.StripBytesLaws.{row_in, pixels-more}
use Rattle.block_writer.proofs.gather_pixels.Goals as goal

pub copy_eight-requires : goal.copy_eight-requires
copy_eight-requires c =
    let a = c.args in let pre = c.requires in let l = c.loop-y in
    (row_in a.wide a.h a.k l.y (length a.src.now) pre.0 pre.1 c.loop-y-test.true, omega (arith, l.auto.out))

pub loop-y-preserved : goal.loop-y-preserved
loop-y-preserved c =
    let a = c.args in let l = c.loop-y in
    let room : 8 * l.y + 8 ≤ length l.out = omega (arith, l.auto.out) in
    ap (take (8 * (l.y + 1))) c.copy_eight.ensures ∙ pixels-more a.wide a.k a.src.now l.out l.y room l.invariant

pub returns : goal.returns
unfolding strip_bytes
returns c =
    let done : c.loop-y.y ≡ c.args.h = omega arith in
    rw done at c.loop-y.invariant
