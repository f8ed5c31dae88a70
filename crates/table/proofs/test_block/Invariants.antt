use Rattle.std.proofs.Common.{◌≡◌, ◌-◌, ◌*◌}
use Rattle.table.specs.Test.{strip_test, leftmost, block_test}
use Rattle.table.proofs.test_block.Given as goal

abbrev pub invariant-loop-i : goal.invariant-loop-i
invariant-loop-i l = leftmost (strip_test l.mask l.n l.h l.room l.b l.z) (2 * l.i) (l.n - 2 * l.i) ≡ block_test l.mask l.n l.h l.room l.b l.z
