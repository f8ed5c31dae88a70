use Rattle.std.proofs.Common.{arith, add-one, ◌≡◌, refl, sym, ap, ◌∙◌}
use Rattle.limbs.proofs.LimbLaws.{all_more}
use Rattle.limbs.specs.Limb.{all}
use Rattle.costume.proofs.RecordLaws.{entry_read, place-more, record_cut, record_wrong, record-right}
use Rattle.costume.specs.Record.{entry_place, entry_right}
use Rattle.costume.proofs.record.record_right.Goals as goal

-- `costume::record::record_right` meets its contract. Assumes nothing.

pub returns-then-payload-r : goal.returns-then-payload-r
returns-then-payload-r c = record_cut _ _ _ c.if-payload-r.true

pub loop-i-init : goal.loop-i-init
unfolding all entry_place
loop-i-init c = record { within = omega arith; place = refl; right = refl }

pub returns-then-not-entry_right : goal.returns-then-not-entry_right
returns-then-not-entry_right c =
    let a = c.args in
    let e = entry_read a.payload.now a.r c.loop-i.i _ _ _ c.read_le16-mask.ensures.0 c.loop-i.invariant.place c.entry_at-entry.ensures in
    record_wrong _ _ a.n c.loop-i.i c.if-payload-r.false c.loop-i-test.true
    (ap (entry_right a.n) (sym e) ∙ sym c.entry_right.ensures ∙ c.if-not-entry_right.true)

pub loop-i-preserved : goal.loop-i-preserved
loop-i-preserved c =
    let a = c.args in
    let v = c.loop-i.invariant in
    let e = entry_read a.payload.now a.r c.loop-i.i _ _ _ c.read_le16-mask.ensures.0 v.place c.entry_at-entry.ensures in
    record {
      within = omega (arith, v.within, c.entry_size-p.ensures.1);
      place = rw add-one (place-more a.payload.now a.r c.loop-i.i _ _ _ v.place e c.entry_size-p.ensures.0);
      right = rw add-one (all_more _ _ v.right (ap (entry_right a.n) (sym e) ∙ sym c.entry_right.ensures ∙ c.if-not-entry_right.false));
    }

pub returns : goal.returns
returns c =
    let e : c.loop-i.i ≡ 16 = omega arith in
    record-right _ _ _ c.if-payload-r.false (rw e at c.loop-i.invariant.right)
