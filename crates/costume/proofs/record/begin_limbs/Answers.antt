use Rattle.std.proofs.Common.{arith, add-one, ◌≡◌, refl, ap, ◌∙◌}
use Rattle.limbs.proofs.LimbLaws.{each_more}
use Rattle.limbs.specs.Limb.{each_limb}
use Rattle.costume.proofs.RecordLaws.{entry_read, place-more}
use Rattle.costume.specs.Record.{entry_place, entry_of, begun_limb}
use Rattle.costume.proofs.record.begin_limbs.Goals as goal

-- `costume::record::begin_limbs` meets its contract. Assumes nothing.

pub loop-i-init : goal.loop-i-init
unfolding each_limb entry_place
loop-i-init c = record { within = omega arith; place = refl; begun = refl }

pub loop-i-preserved : goal.loop-i-preserved
loop-i-preserved c =
    let a = c.args in
    let v = c.loop-i.invariant in
    let e = entry_read a.payload.now a.r c.loop-i.i _ _ _ c.read_le16-mask.ensures.0 v.place c.entry_at-entry.ensures in
    record {
      within = omega (arith, v.within, c.entry_size-p.ensures.1);
      place = rw add-one (place-more a.payload.now a.r c.loop-i.i _ _ _ v.place e c.entry_size-p.ensures.0);
      begun = rw add-one (each_more (λ k. begun_limb (entry_of a.payload.now a.r k)) a.limbs.now c.loop-i.i _ _ _ _ v.begun c.limb_at-limb.ensures
          (c.begin.ensures ∙ ap (λ q. begun_limb q c.limb_at-limb.result) e) c.put_limb.ensures);
    }

pub returns : goal.returns
returns c =
    let e : c.loop-i.i ≡ 16 = omega arith in
    rw e at c.loop-i.invariant.begun
