use Rattle.std.proofs.Common.{◌-◌, length}
use Rattle.bits.specs.Reader.{Fetches}
use Rattle.bits.proofs.Cursor.refill_bytes.Given as goal

abbrev pub invariant-loop-cur : goal.invariant-loop-cur
invariant-loop-cur l = Fetches l.body l.initial.cur l.cur

abbrev pub decreases-loop-cur : goal.decreases-loop-cur
decreases-loop-cur l = length l.body - l.cur.at
