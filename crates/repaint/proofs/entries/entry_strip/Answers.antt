use Rattle.std.proofs.Common.{arith, ◌∙◌}
use Rattle.scene.proofs.Strips.{pixels_local, masks_local}
use Rattle.layers.proofs.EntryLaws.{entry_fits, entry_covers, covers_in, covering, same-opaque}
use Rattle.layers.proofs.LayerLaws.{over_off}
use Rattle.layers.proofs.PaintLaws.{over-pixels, over-masks}
use Rattle.repaint.proofs.entries.entry_strip.Goals as goal

-- `repaint::entries::entry_strip` meets its contract. Assumes nothing.

pub covers_strip-requires : goal.covers_strip-requires
covers_strip-requires c =
    let table = c.args.painting.ready.gathered in
    let fit = entry_fits _ _ _ c.requires.entry_ready.0 in
    (omega (arith, fit.last, table.few), table.long)

pub source_of-m-requires : goal.source_of-m-requires
source_of-m-requires c =
    let fit = entry_fits _ _ _ c.requires.entry_ready.0 in record {
      object_gathered = (c.args.painting.ready.gathered, fit.first, fit.last, fit.state);
      has_smap = fit.smap;
    }

pub overflow_sub-j : goal.overflow_sub-j
overflow_sub-j c =
    let e = c.args.e in
    let can = c.requires.entry_ready.0 in
    let by-table = c.covers_strip.ensures in
    let on = entry_covers _ _ e can _ _ _ c.args.painting.ready.gathered by-table ∙ c.if-covers_strip.true in
    (covers_in _ _ e can _ on).0

pub put_strip-opaque-requires : goal.put_strip-opaque-requires
put_strip-opaque-requires c =
    let e = c.args.e in
    let ready = c.args.painting.ready in
    let can = c.requires.entry_ready.0 in
    let by-table = c.covers_strip.ensures in
    let on = entry_covers _ _ e can _ _ _ ready.gathered by-table ∙ c.if-covers_strip.true in
    let here = covering _ _ e can _ c.source_of-m.ensures ready.sound _ on in record {
      readable = (ready.sound, here.readable, here.strip);
      in_pixels = (c.requires.entry_ready.1, here.low, c.requires.surfaces_fit.0);
    }

pub put_planes-requires : goal.put_planes-requires
put_planes-requires c =
    let source_of = c.source_of-m in
    let if1 = c.if-covers_strip in let covers-strip = c.covers_strip in
    let e = c.args.e in
    let ready = c.args.painting.ready in
    let can = c.requires.entry_ready.0 in
    let by-table = covers-strip.ensures in
    let taken = if1.true in
    let on = entry_covers _ _ e can _ _ _ ready.gathered by-table ∙ taken in
    let here = covering _ _ e can _ source_of.ensures ready.sound _ on in record {
      readable = (ready.sound, here.readable, here.strip);
      planes_pass = here.planes;
      in_masks = (c.requires.entry_ready.1, here.low, c.requires.surfaces_fit.1);
    }

pub returns-then-covers_strip : goal.returns-then-covers_strip
returns-then-covers_strip c =
    let e = c.args.e in
    let r = c.args.painting.room in
    let ready = c.args.painting.ready in
    let can = c.requires.entry_ready.0 in
    let inside = c.requires.entry_ready.1 in
    let by-table = c.covers_strip.ensures in
    let taken = c.if-covers_strip.true in
    let on = entry_covers _ _ e can _ _ _ ready.gathered by-table ∙ taken in
    let at = c.source_of-m.ensures in
    let here = covering _ _ e can _ at ready.sound _ on in
    let put = c.put_strip-opaque.ensures in record {
      pixels_after = over-pixels _ r ready.sound _ inside e can _ at on here.low _ _ put.pixels_after;
      masks_after = over-masks _ r ready.sound _ inside e can _ at on _ (put.is_opaque ∙ same-opaque _ r e can _ at _) _ _ c.put_planes.ensures;
    }

pub returns-else-covers_strip : goal.returns-else-covers_strip
returns-else-covers_strip c =
    let e = c.args.e in
    let can = c.requires.entry_ready.0 in
    let off = entry_covers _ _ e can _ _ _ c.args.painting.ready.gathered c.covers_strip.ensures ∙ c.if-covers_strip.false in record {
      pixels_after = over_off _ _ _ _ (pixels_local _) e off;
      masks_after = over_off _ _ _ _ (masks_local _) e off;
    }
