use Rattle.std.proofs.Common.{arith, add-one, ◌≡◌, refl, sym, ap, ◌∙◌}
use Rattle.limbs.proofs.LimbLaws.{all_false, all_more}
use Rattle.limbs.specs.Limb.{limb_at, limb_right, limbs_right, all}
use Rattle.limbs.proofs.bytes.limbs_right.Goals as goal

-- `limbs::bytes::limbs_right` meets its contract. Assumes nothing.

pub loop-i-init : goal.loop-i-init
unfolding all
loop-i-init c = refl

pub returns-then-not-limb_right : goal.returns-then-not-limb_right
unfolding limbs_right
returns-then-not-limb_right c =
    sym (all_false 16 (λ k. limb_right c.args.n (limb_at c.args.limbs.now k)) c.loop-i.i c.loop-i-test.true
    (ap (limb_right c.args.n) (sym c.limb_at.ensures) ∙ sym c.limb_right.ensures ∙ c.if-not-limb_right.true))

pub loop-i-preserved : goal.loop-i-preserved
loop-i-preserved c =
    rw add-one (all_more _ _ c.loop-i.invariant
    (ap (limb_right c.args.n) (sym c.limb_at.ensures) ∙ sym c.limb_right.ensures ∙ c.if-not-limb_right.false))

pub returns : goal.returns
unfolding limbs_right
returns c =
    let e : c.loop-i.i ≡ 16 = omega arith in
    rw e at (sym c.loop-i.invariant)
