use Rattle.std.proofs.Common.{arith}
use Rattle.bits.proofs.CursorLaws.{hands-zeros, hands-one}
use Rattle.bits.proofs.ZeroLaws.{zeros-few, zeros_are, zeros-end}
use Rattle.bits.proofs.Cursor.zeros.Goals as goal

pub take-requires : goal.take-requires
take-requires c = (omega (arith, zeros-few c.args.self.hold, c.requires.0), c.requires.1)

pub returns : goal.returns
returns c =
    let self = c.args.self in
    let enough = c.requires.0 in
    let taken = c.take in (
      zeros-few self.hold,
      hands-zeros _ _ self taken.result.next taken.ensures (zeros_are self.hold),
      λ few. hands-one _ _ self taken.result.next taken.ensures (omega (arith, few, enough)) (zeros-end self.hold few),
    )
