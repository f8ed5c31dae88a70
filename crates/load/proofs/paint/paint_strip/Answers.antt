use Rattle.std.proofs.Common.{arith}
use Rattle.load.proofs.BoxLaws.{box_same}
use Rattle.load.proofs.CellLaws.{read_pixel}
use Rattle.load.proofs.paint.paint_strip.Goals as goal

-- `load::paint::paint_strip` meets its contract. Assumes nothing.

pub read_strip-requires : goal.read_strip-requires
read_strip-requires c = record {
  strip_in_block = (omega arith, omega arith, omega arith, omega arith);
  table_right = c.requires.table_right;
  pixels_fit = (omega arith, omega arith);
}

pub returns : goal.returns
returns c =
    let a = c.args in
    box_same _ _ _ _ _ _ _ _ _
    (λ x r o lx lr. read_pixel a.n a.h a.room.now a.b a.z a.k _ _ _ c.requires.strip_passes c.read_strip.ensures x r lx lr)
    c.blit_strip.ensures
