use Rattle.std.proofs.Common.{◌≡◌, ◌≤◌, ◌-◌, arith}
use Rattle.layers.proofs.PaintLaws.{planes-none, planes-more}
use Rattle.room.specs.Test.{strips}
use Rattle.repaint.proofs.picture.put_planes.Goals as goal

-- `repaint::picture::put_planes` meets its contract. Assumes nothing.

pub loop-p-init : goal.loop-p-init
loop-p-init c =
    let r = c.args.r in
    planes-none _ c.args.m c.args.j (strips r) r.height _ c.args.y _ _

pub put_plane-requires : goal.put_plane-requires
put_plane-requires c =
    let first = c.loop-p.auto.p in
    let last : c.loop-p.p ≤ c.args.r.planes = omega arith in
    let place = c.requires.in_masks in record {
      readable = c.requires.readable;
      plane_passes = (c.requires.planes_pass _ first last, first, last);
      in_masks = (place.0, place.1, omega (arith, place.2));
    }

pub loop-p-preserved : goal.loop-p-preserved
loop-p-preserved c =
    let r = c.args.r in
    let place = c.requires.in_masks in
    planes-more _ c.args.m c.args.j (strips r) r.height _ c.args.y _ _ _ _ _ c.loop-p.auto.p
    (omega (arith, place.0)) c.requires.readable.0.lowest place.1 c.loop-p.invariant c.put_plane.ensures

pub returns : goal.returns
returns c =
    let all : c.loop-p.p - 1 ≡ c.args.r.planes = omega arith in
    rw all at c.loop-p.invariant
