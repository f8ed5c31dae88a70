use Rattle.std.proofs.Common.{◌≡◌, refl, false, ◌*◌, ◌<◌, arith, length}
use Rattle.strip.proofs.PictureLaws.{pixel_at, placed-over, up_to_store}
use Rattle.number.proofs.BufferLaws.{drop_store}
use Rattle.decode.proofs.placing.rows.Goals as goal

pub loop-i-init : goal.loop-i-init
loop-i-init c = (refl, refl)

pub loop-i-preserved : goal.loop-i-preserved
loop-i-preserved c =
    let a = c.args in
    let l = c.loop-i in
    let room : l.i < length l.out = omega arith in
    (drop_store l.out _ l.i _ l.invariant.0, up_to_store (pixel_at false a.h a.src.now) l.out l.i _ room l.invariant.1 refl)

pub returns : goal.returns
returns c =
    let l = c.loop-i in
    let all : l.i ≡ 8 * c.args.h = omega arith in
    placed-over false c.args.h c.args.src.now l.out c.args.out.now
    (rw all at l.invariant.1)
    (rw all at l.invariant.0)
