use Rattle.std.proofs.Common.{leb-true, leb, ◌+◌}
use Rattle.number.proofs.BoolLaws.{and_left, and_right}
use Rattle.strip_test.proofs.leap.roomy.Goals as goal

pub returns : goal.returns
returns c = λ e.
    let a = c.args in
    let bits = leb (a.s.p + 72) a.end in
    let pixels = leb (a.s.i + 32) a.total in
    (leb-true _ _ (and_left bits pixels e), leb-true _ _ (and_right bits pixels e))
