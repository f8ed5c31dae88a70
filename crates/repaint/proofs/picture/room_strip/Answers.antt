use Rattle.std.proofs.Common.{arith, refl}
use Rattle.load.proofs.LoadLaws.{background-passes, plane-passes}
use Rattle.table.proofs.BlockLaws.{block-table, block-strip}
use Rattle.layers.proofs.PaintLaws.{width_is, fresh_pixels, fresh_masks}
use Rattle.repaint.proofs.picture.room_strip.Goals as goal

-- `repaint::picture::room_strip` meets its contract. Assumes nothing.

pub paint_strip-requires : goal.paint_strip-requires
paint_strip-requires c =
    let sound = c.requires.pictures_pass.0 in
    let passed = background-passes _ _ c.requires.pictures_pass.1 in
    let here = c.requires.pictures_pass.2 in
    let room = rw (width_is _ c.args.r sound _ here) at c.requires.surfaces_fit.0 in record {
      strip_in_block = (here, omega (arith, sound.widest), sound.highest, omega (arith, sound.smap_in), sound.smap-last);
      table_right = block-table _ _ _ _ _ _ passed;
      strip_passes = block-strip _ _ _ _ _ _ passed _ here;
      pixels_fit = room;
    }

pub put_planes-requires : goal.put_planes-requires
put_planes-requires c =
    let sound = c.requires.pictures_pass.0 in
    let passed = c.requires.pictures_pass.1 in
    let here = c.requires.pictures_pass.2 in record {
      readable = (
        sound,
        record {
          narrow = omega (arith, sound.widest);
          low = sound.highest;
          smap_in = omega (arith, sound.smap_in);
          smap-last = sound.smap-last;
          payload-last = sound.image_last;
          smap-passes = background-passes _ _ passed;
        },
        here,
      );
      planes_pass = plane-passes _ _ passed;
      in_masks = (here, omega arith, c.requires.surfaces_fit.1);
    }

pub returns : goal.returns
returns c =
    let r = c.args.r in
    let sound = c.requires.pictures_pass.0 in
    let here = c.requires.pictures_pass.2 in record {
      pixels_after = fresh_pixels _ r sound _ here _ _ c.paint_strip.ensures;
      masks_after = fresh_masks _ r sound _ here _ refl refl refl refl _ _ c.put_planes.ensures;
    }
