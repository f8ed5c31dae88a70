use Rattle.std.proofs.Common.{◌-◌}
use Rattle.strip_test.specs.Leap.{Begun}
use Rattle.strip_test.proofs.finish.Given as goal

abbrev pub invariant-loop-st : goal.invariant-loop-st
invariant-loop-st l = Begun l.way.second l.way.w l.total l.body l.st

abbrev pub decreases-loop-st : goal.decreases-loop-st
decreases-loop-st l = l.total - l.st.i
