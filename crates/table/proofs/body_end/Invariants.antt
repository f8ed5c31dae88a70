use Rattle.std.proofs.Common.{◌-◌, ◌≡◌}
use Rattle.table.specs.Body.{body_end}
use Rattle.table.proofs.body_end.Given as goal

abbrev pub invariant-loop-j : goal.invariant-loop-j
invariant-loop-j l = body_end l.mask l.room l.b l.z l.j (l.n - l.j) ≡ body_end l.mask l.room l.b l.z l.k (l.n - l.k)
