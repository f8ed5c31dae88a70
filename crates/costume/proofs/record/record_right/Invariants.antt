use Rattle.std.proofs.Common.{◌+◌, ◌*◌, ◌≤◌, true, ◌≡◌}
use Rattle.limbs.specs.Limb.{all}
use Rattle.costume.specs.Record.{entry_place, entry_of, entry_right}
use Rattle.costume.proofs.record.record_right.Given as goal

abbrev pub invariant-loop-i : goal.invariant-loop-i
invariant-loop-i l = record {
  within : l.p ≤ l.r + 2 + 3 * l.i;
  place : l.p ≡ entry_place l.payload l.r l.i;
  right : all l.i (λ k. entry_right l.n (entry_of l.payload l.r k)) ≡ true;
}
