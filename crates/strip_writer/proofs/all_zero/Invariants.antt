use Rattle.std.proofs.Common.{◌≡◌, ◌&&◌, drop}
use Rattle.strip_writer.specs.Rows.{all_zero}
use Rattle.strip_writer.proofs.all_zero.Given as goal

abbrev pub invariant-loop-row : goal.invariant-loop-row
invariant-loop-row l = all_zero l.rows ≡ (l.zero && all_zero (drop l.row-index l.rows))
