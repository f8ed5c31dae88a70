use Rattle.std.proofs.Common.{◌≡◌}
use Rattle.play.specs.Bytes.{lent, played}
use Rattle.call_list.specs.Coded.{calls_of}
use Rattle.call_list.specs.Run.{played_number, put_first}
use Rattle.call_list.proofs.calls.play_all.Given as goal

abbrev pub invariant-loop-i : goal.invariant-loop-i
invariant-loop-i l =
    (lent l.session l.pixels l.masks ≡ played l.room (lent l.initial.session l.initial.pixels l.initial.masks) (calls_of l.calls l.i))
    × (l.numbers ≡ put_first (played_number l.room (lent l.initial.session l.initial.pixels l.initial.masks) l.calls) l.i l.initial.numbers)
