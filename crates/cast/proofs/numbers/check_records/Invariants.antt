use Rattle.std.proofs.Common.{◌≡◌, drop}
use Rattle.cast.specs.Call.{first_bad}
use Rattle.cast.proofs.numbers.check_records.Given as goal

-- no record is bad so far
abbrev pub invariant-loop-a : goal.invariant-loop-a
invariant-loop-a l = first_bad l.pictures (drop l.a-index l.list) ≡ first_bad l.pictures l.list
