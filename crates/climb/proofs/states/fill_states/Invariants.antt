use Rattle.std.proofs.Common.{ℕ, ◌<◌, ◌≡◌, get_or}
use Rattle.stored.specs.Bytes.{entries}
use Rattle.climb.specs.Climb.{state_of}
use Rattle.climb.proofs.states.fill_states.Given as goal

abbrev pub invariant-loop-o : goal.invariant-loop-o
invariant-loop-o l = (q : ℕ) → q < l.o → get_or l.states q 0 ≡ state_of (entries l.s) q
