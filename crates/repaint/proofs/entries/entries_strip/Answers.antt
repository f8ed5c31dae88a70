use Rattle.std.proofs.Common.{arith, ◌≡◌}
use mathlib.Core.Path.{subst⁻¹}
use Rattle.scene.specs.declared.Entry.{Entry}
use Rattle.layers.specs.Ready.{Paintable}
use Rattle.layers.proofs.LayerLaws.{entries_none, entries-more}
use Rattle.repaint.proofs.entries.entries_strip.Goals as goal

-- `repaint::entries::entries_strip` meets its contract. Assumes nothing.

pub loop-i-init : goal.loop-i-init
loop-i-init c = (entries_none _ _ _ _, entries_none _ _ _ _)

pub entry_at-requires : goal.entry_at-requires
entry_at-requires c = omega (arith, c.args.painting.listed.long)

pub entry_strip-requires : goal.entry_strip-requires
entry_strip-requires c =
    let can =
    subst⁻¹ (λ (e : Entry). Paintable c.args.painting.bytes.now c.args.painting.room e) c.entry_at.ensures
    (c.args.painting.listed.each _ c.loop-i-test.true)
    in record {
      entry_ready = (can, c.requires.strip_in_room);
      surfaces_fit = (omega (arith, c.requires.surfaces_fit.0), omega (arith, c.requires.surfaces_fit.1));
    }

pub loop-i-preserved : goal.loop-i-preserved
loop-i-preserved c =
    let inv = c.loop-i.invariant in
    let is = c.entry_at.ensures in
    let call = c.entry_strip in (
      entries-more _ _ _ _ _ _ _ _ is inv.0 call.ensures.pixels_after,
      entries-more _ _ _ _ _ _ _ _ is inv.1 call.ensures.masks_after,
    )

pub returns : goal.returns
returns c =
    let inv = c.loop-i.invariant in
    let all : c.loop-i.i ≡ c.args.painting.n = omega arith in record {
      pixels_after = rw all at inv.0;
      masks_after = rw all at inv.1;
    }
