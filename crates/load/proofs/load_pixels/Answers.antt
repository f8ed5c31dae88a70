use Rattle.std.proofs.Common.{arith, ◌*◌, ◌/◌, ◌≡◌}
use Rattle.load.proofs.LoadLaws.{background-passes}
use Rattle.load.specs.Load.{background, loaded_pixels}
use Rattle.load.proofs.load_pixels.Goals as goal

-- `load::load_pixels` meets its contract. Assumes nothing.

pub paint_background-requires : goal.paint_background-requires
paint_background-requires c =
    let sound = c.requires.sound in
    let whole : 8 * (c.args.r.width / 8) ≡ c.args.r.width = omega (arith, sound.whole) in record {
      block_in_room = (omega arith, sound.highest, omega (arith, sound.smap_in), sound.smap-last);
      block_passes = background-passes _ _ c.requires.pictures_pass;
      pixels_fit = rw whole c.requires.pixels_fit;
    }

pub returns : goal.returns
unfolding loaded_pixels background
returns c =
    let sound = c.requires.sound in
    let whole : 8 * (c.args.r.width / 8) ≡ c.args.r.width = omega (arith, sound.whole) in
    rw whole at c.paint_background.ensures
