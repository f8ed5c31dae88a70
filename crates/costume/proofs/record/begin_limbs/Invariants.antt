use Rattle.std.proofs.Common.{◌+◌, ◌*◌, ◌≤◌, ◌≡◌}
use Rattle.limbs.specs.Limb.{each_limb}
use Rattle.costume.specs.Record.{entry_place, entry_of, begun_limb}
use Rattle.costume.proofs.record.begin_limbs.Given as goal

abbrev pub invariant-loop-i : goal.invariant-loop-i
invariant-loop-i l = record {
  within : l.p ≤ l.r + 2 + 3 * l.i;
  place : l.p ≡ entry_place l.payload l.r l.i;
  begun : l.limbs ≡ each_limb (λ k. begun_limb (entry_of l.payload l.r k)) l.i l.initial.limbs;
}
