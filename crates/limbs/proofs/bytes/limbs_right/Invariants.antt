use Rattle.std.proofs.Common.{true, ◌≡◌}
use Rattle.limbs.specs.Limb.{limb_at, limb_right, all}
use Rattle.limbs.proofs.bytes.limbs_right.Given as goal

abbrev pub invariant-loop-i : goal.invariant-loop-i
invariant-loop-i l = all l.i (λ k. limb_right l.n (limb_at l.limbs k)) ≡ true
