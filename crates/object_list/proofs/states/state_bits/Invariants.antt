use Rattle.std.proofs.Common.{◌≡◌, ◌+◌, ◌≤◌, ◌^◌}
use Rattle.object_list.specs.List.{state_bits}
use Rattle.object_list.proofs.states.state_bits.Given as goal

abbrev pub invariant-loop-n : goal.invariant-loop-n
invariant-loop-n l = (l.bits ≡ state_bits l.room l.o l.n) × (l.bits + 1 ≤ 2 ^ l.n)
