use Rattle.std.proofs.Common.{◌≡◌, ◌+◌, ◌-◌}
use Rattle.table.specs.Test.{leftmost}
use Rattle.room.specs.Picture.{plane_test}
use Rattle.room.proofs.picture.test_planes.Given as goal

abbrev pub invariant-loop-k : goal.invariant-loop-k
invariant-loop-k l =
    leftmost (plane_test l.n l.h l.room l.b l.z) l.k (l.planes + 1 - l.k) ≡ leftmost (plane_test l.n l.h l.room l.b l.z) 1 l.planes
