use Rattle.std.proofs.Common.{◌-◌, ◌≡◌, take, drop}
use Rattle.stored.specs.Bytes.{same_marks, marks_from}
use Rattle.stored.specs.Layout.{shown_from}
use Rattle.stored.proofs.bytes.agrees.Given as goal

abbrev pub invariant-loop-k : goal.invariant-loop-k
invariant-loop-k l =
    same_marks (marks_from l.session shown_from 0 l.n) (take l.n l.s.list)
    ≡ same_marks (marks_from l.session shown_from l.k (l.n - l.k)) (drop l.k (take l.n l.s.list))
