use Rattle.std.proofs.Common.{◌≡◌, drop}
use Rattle.cast.specs.Call.{stamp_all}
use Rattle.cast.proofs.paint.stamp_all.Given as goal

-- the records that are left make of the frame as it stands what all make of the frame handed in
abbrev pub invariant-loop-a : goal.invariant-loop-a
invariant-loop-a l =
    stamp_all l.masks l.pictures l.w l.h l.n l.clear (drop l.a-index l.list) l.frame
    ≡ stamp_all l.masks l.pictures l.w l.h l.n l.clear l.list l.fn.frame
