use Rattle.std.proofs.Common.{length, drop, add-one, ◌-◌, refl, ap, ◌∙◌}
use Rattle.limbs.proofs.LimbLaws.{all_at, each_more, limb_kept}
use Rattle.limbs.specs.Tick.{ticked_limb}
use Rattle.limbs.specs.Limb.{limb_at, limb_right, limbs_right, each_limb}
use Rattle.limbs.proofs.ticking.tick_limbs.Goals as goal

-- `limbs::ticking::tick_limbs` meets its contract. Assumes nothing.

pub loop-i-init : goal.loop-i-init
unfolding each_limb
loop-i-init c = refl

pub tick_limb-requires : goal.tick_limb-requires
unfolding limbs_right
tick_limb-requires c =
    let a = c.args in
    let n = length a.payload.now - a.from in
    let (inside, _, right) = c.requires in
    let same = limb_kept (λ k. ticked_limb (drop a.from a.payload.now)) a.limbs.now c.loop-i.i _ _ c.loop-i.invariant c.limb_at-limb.ensures in
    (inside, ap (limb_right n) same ∙ all_at 16 (λ k. limb_right n (limb_at a.limbs.now k)) right c.loop-i.i c.loop-i-test.true)

pub loop-i-preserved : goal.loop-i-preserved
loop-i-preserved c =
    rw add-one (each_more (λ k. ticked_limb (drop c.args.from c.args.payload.now)) c.args.limbs.now c.loop-i.i _ _ _ _ c.loop-i.invariant
    c.limb_at-limb.ensures c.tick_limb.ensures c.put_limb.ensures)
