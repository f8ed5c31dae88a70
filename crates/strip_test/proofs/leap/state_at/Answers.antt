use Rattle.std.proofs.Common.{refl, arith}
use Rattle.strip_test.proofs.LeapLaws.{spot_held, spot_rest}
use Rattle.strip_test.proofs.leap.state_at.Goals as goal

pub refill-cur-requires : goal.refill-cur-requires
refill-cur-requires c =
    c.new.ensures.held c.args.body.now (omega (arith, c.requires))

pub take-requires : goal.take-requires
take-requires c =
    let full = c.refill-cur.ensures in let a = c.args in
    let new = c.new in
    (spot_held a.body.now a.s.p new.result c.refill-cur.result c.requires new.ensures full.0 full.1, full.0.held.few)

pub returns : goal.returns
returns c =
    let taken = c.take in let refill = c.refill-cur in let new = c.new in
    let a = c.args in
    let s = a.body.now in (
      refl,
      taken.ensures.held s refill.ensures.0.held,
      spot_rest s a.s.p taken.result.value new.result refill.result taken.result.next new.ensures refill.ensures.0 taken.ensures,
    )
