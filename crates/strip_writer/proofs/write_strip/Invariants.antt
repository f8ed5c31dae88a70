use Rattle.std.proofs.Common.{◌-◌, length}
use Rattle.strip_writer.proofs.WritingLaws.{Writing}
use Rattle.strip_writer.proofs.write_strip.Given as goal

abbrev pub invariant-loop-i : goal.invariant-loop-i
invariant-loop-i l = Writing l.px l.initial.out l.out l.writer l.colour l.step l.i

abbrev pub decreases-loop-i : goal.decreases-loop-i
decreases-loop-i l = length l.px - l.i
