use Rattle.std.proofs.Common.{arith, ◌∙◌}
use Rattle.load.proofs.BoxLaws.{box_same}
use Rattle.layers.proofs.SourceLaws.{strip-table, strip_read, read_over, read_none_clear}
use Rattle.repaint.proofs.picture.put_strip.Goals as goal

-- `repaint::picture::put_strip` meets its contract. Assumes nothing.

pub read_strip-requires : goal.read_strip-requires
read_strip-requires c =
    let p = c.requires.readable in record {
      strip_in_block = (p.2, p.1.narrow, p.1.smap_in, p.1.smap-last);
      table_right = strip-table _ _ _ p.1 p.2;
      pixels_fit = (p.1.low, omega arith);
    }

pub unwrap-clear-requires : goal.unwrap-clear-requires
unwrap-clear-requires c =
    let p = c.requires.readable in
    strip_read _ _ _ p.1 p.2 _ _ _ c.read_strip.ensures

pub returns : goal.returns
returns c =
    let p = c.requires.readable in
    let read = c.read_strip.ensures in
    let drawn = c.unwrap-clear.ensures in record {
      is_opaque = c.none_clear.ensures ∙ read_none_clear _ _ _ p.1 p.2 _ _ _ read _ drawn _;
      pixels_after = box_same _ _ _ _ _ _ _ _ _ (λ x q o lx lq. read_over _ _ _ p.1 p.2 _ _ _ read _ drawn _ _ o (omega arith)) c.blit_strip.ensures;
    }
