use Rattle.std.proofs.Common.{arith, sym, ◌∙◌}
use Rattle.load.specs.Load.{mask, loaded_plane}
use Rattle.room.proofs.PictureLaws.{found-passes}
use Rattle.block.proofs.Laws.{nth_at}
use Rattle.load.proofs.load_plane.Goals as goal

-- `load::load_plane` meets its contract. Assumes nothing.

pub paint_plane-requires : goal.paint_plane-requires
paint_plane-requires c =
    let sound = c.requires.plane_of_room.0 in
    let at = sym c.in-Some.is ∙ c.plane_in.ensures in
    let in_room = nth_at _ _ _ _ _ _ _ at in record {
      block_in_room = (omega arith, sound.highest, omega (arith, in_room), omega (arith, in_room, sound.image_last));
      block_passes = found-passes _ _ _ _ _ _ _ _ at c.requires.plane_passes;
      masks_fit = (sound.few, c.requires.plane_of_room.1, c.requires.plane_of_room.2, c.requires.masks_fit);
    }

pub clear_plane-requires : goal.clear_plane-requires
clear_plane-requires c =
    let sound = c.requires.plane_of_room.0 in
    (omega arith, sound.highest, sound.few, c.requires.plane_of_room.1, c.requires.plane_of_room.2, c.requires.masks_fit)

pub returns-in-Some : goal.returns-in-Some
unfolding loaded_plane mask
returns-in-Some c =
    let at = sym c.in-Some.is ∙ c.plane_in.ensures in
    rw (← at) c.paint_plane.ensures

pub returns-in-None : goal.returns-in-None
unfolding loaded_plane mask
returns-in-None c =
    let none = sym c.in-None.is ∙ c.plane_in.ensures in
    rw (← none) c.clear_plane.ensures
