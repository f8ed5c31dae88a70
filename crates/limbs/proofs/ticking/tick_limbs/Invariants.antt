use Rattle.std.proofs.Common.{drop, ◌≡◌}
use Rattle.limbs.specs.Tick.{ticked_limb}
use Rattle.limbs.specs.Limb.{each_limb}
use Rattle.limbs.proofs.ticking.tick_limbs.Given as goal

abbrev pub invariant-loop-i : goal.invariant-loop-i
invariant-loop-i l = l.limbs ≡ each_limb (λ k. ticked_limb (drop l.from l.payload)) l.i l.initial.limbs
