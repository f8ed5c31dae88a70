use Rattle.std.proofs.Common.{◌≡◌, take, drop}
use Rattle.stored.specs.Bytes.{put_marks}
use Rattle.stored.specs.Layout.{shown_from}
use Rattle.stored.proofs.bytes.store_shown.Given as goal

abbrev pub invariant-loop-i : goal.invariant-loop-i
invariant-loop-i l =
    put_marks l.initial.session shown_from 0 (take l.n l.s.list) ≡ put_marks l.session shown_from l.i (drop l.i (take l.n l.s.list))
