use Rattle.std.proofs.Common.{arith}
use Rattle.bits.proofs.CursorLaws.{size_of, hands-low}
use Rattle.bits.proofs.Cursor.take.Goals as goal

pub returns : goal.returns
returns c =
    let a = c.args in
    rw (size_of a.n (omega (arith, c.requires))) (hands-low a.self a.n c.requires.0)
