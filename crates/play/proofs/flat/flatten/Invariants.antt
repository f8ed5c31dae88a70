use Rattle.std.proofs.Common.{take, ◌≡◌}
use Rattle.layers.specs.Decoded.{entries_of}
use Rattle.play.proofs.flat.flatten.Given as goal

abbrev pub invariant-loop-i : goal.invariant-loop-i
invariant-loop-i l = entries_of l.out l.i ≡ take l.i l.s.list
