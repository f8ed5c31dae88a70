use Rattle.std.proofs.Common.{true, false, refl}
use Rattle.strip_test.proofs.RowLaws.{right_rows, fit_rows, rows_right}
use Rattle.strip_test.specs.WholeOps.{whole_ops}
use Rattle.bits.specs.Bits.{low_bits}
use Rattle.strip_test.proofs.rows.rows_of.Goals as goal

pub returns-then-second : goal.returns-then-second
unfolding right_rows fit_rows whole_ops low_bits
returns-then-second c = rw c.if-second.true (rows_right true _ refl refl)

pub returns-else-second : goal.returns-else-second
unfolding right_rows fit_rows whole_ops low_bits
returns-else-second c = rw c.if-second.false (rows_right false _ refl refl)
