use Rattle.std.proofs.Common.{arith, ◌-◌, ◌*◌, ◌≤◌, ◌≡◌}
use Rattle.load.proofs.LoadLaws.{plane-passes, planes-more}
use Rattle.load.specs.Load.{loaded_masks}
use Rattle.grid.proofs.Box.{box_none}
use Rattle.load.proofs.load_masks.Goals as goal

-- `load::load_masks` meets its contract. Assumes nothing.

pub loop-k-init : goal.loop-k-init
loop-k-init c =
    let none : 0 ≡ 0 * c.args.r.height = omega arith in
    rw (← none) (box_none _ _ _ _ _ _)

pub load_plane-requires : goal.load_plane-requires
load_plane-requires c =
    let more : c.loop-k.k ≤ c.args.r.planes = omega arith in record {
      plane_of_room = (c.requires.sound, c.loop-k.auto.k, more);
      plane_passes = plane-passes _ _ c.requires.pictures_pass _ c.loop-k.auto.k more;
      masks_fit = omega arith;
    }

pub loop-k-preserved : goal.loop-k-preserved
loop-k-preserved c = planes-more _ _ _ _ _ _ c.loop-k.auto.k c.loop-k.invariant c.load_plane.ensures

pub returns : goal.returns
unfolding loaded_masks
returns c =
    let all : c.loop-k.k - 1 ≡ c.args.r.planes = omega arith in
    rw all at c.loop-k.invariant
