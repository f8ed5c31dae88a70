use Rattle.std.proofs.Common.{arith}
use Rattle.bits.proofs.CursorLaws.{size_of, shows_low}
use Rattle.bits.proofs.Cursor.peek.Goals as goal

pub returns : goal.returns
returns c = λ le.
    let a = c.args in
    rw (size_of a.n (omega (arith, c.requires))) (shows_low a.self a.n le)
