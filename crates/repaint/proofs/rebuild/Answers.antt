use Rattle.std.proofs.Common.{arith, ap, not, eq-eqb, ne_eqb}
use Rattle.layers.proofs.LayerLaws.{touch_none, touch_on, touch_off, touch_all}
use Rattle.layers.proofs.PaintLaws.{in_pixels, in_masks}
use Rattle.repaint.proofs.rebuild.Goals.{then-touched-k-ne0, else-touched-k-ne0}
use Rattle.repaint.proofs.rebuild.Goals as goal

-- `repaint::rebuild` meets its contract. Assumes nothing.

pub loop-k-init : goal.loop-k-init
loop-k-init c = (touch_none _ _ _ _, touch_none _ _ _ _)

pub bounds-touched-k : goal.bounds-touched-k
bounds-touched-k c = omega (arith, c.requires.entries_ready.2)

pub rebuild_strip-requires : goal.rebuild_strip-requires
rebuild_strip-requires c = record {
  strip_in_room = c.loop-k-test.true;
  surfaces_fit = (omega (arith, c.requires.surfaces_fit.0), omega (arith, c.requires.surfaces_fit.1));
}

pub loop-k-preserved : goal.loop-k-preserved
loop-k-preserved c =
    let inv = c.loop-k.invariant in elim c.if-touched-k-ne0.branch [
      | then-touched-k-ne0 w ↦
          let on = ap not (ne_eqb _ 0 w.if-touched-k-ne0.true) in
          let call = w.rebuild_strip.ensures in
          rw (w.pixels-is, w.masks-is) (touch_on _ _ _ _ _ _ inv.0 on _ call.pixels_after, touch_on _ _ _ _ _ _ inv.1 on _ call.masks_after)
      | else-touched-k-ne0 w ↦
          let off = ap not (eq-eqb _ 0 w.if-touched-k-ne0.false) in
          rw (w.pixels-is, w.masks-is) (touch_off _ _ _ _ _ _ inv.0 off, touch_off _ _ _ _ _ _ inv.1 off)
    ]

pub returns : goal.returns
returns c =
    let inv = c.loop-k.invariant in
    let all = c.loop-k-test.false in record {
      pixels_after = touch_all _ _ _ _ _ _ all (in_pixels _ c.args.r) _ inv.0;
      masks_after = touch_all _ _ _ _ _ _ all (in_masks _ c.args.r) _ inv.1;
    }
