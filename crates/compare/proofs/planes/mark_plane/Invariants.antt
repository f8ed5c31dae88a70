use Rattle.std.proofs.Common.{ℕ, ◌+◌, ◌≤◌, ◌<◌, ◌≡◌, cond, get_or}
use Rattle.compare.specs.Tables.{found_differ}
use Rattle.compare.proofs.planes.mark_plane.Given as goal

abbrev pub invariant-loop-k : goal.invariant-loop-k
invariant-loop-k l =
    ((j : ℕ) → j < l.k → get_or l.marks j 0 ≡ get_or l.initial.marks j 0 + cond (found_differ l.n l.h l.a l.f l.b l.g j) l.bit 0)
    × ((j : ℕ) → l.k ≤ j → get_or l.marks j 0 ≡ get_or l.initial.marks j 0)
