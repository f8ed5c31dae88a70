use Rattle.std.proofs.Common.{arith}
use Rattle.strip.proofs.PlaceLaws.{run_cut_stepped, run-past_stepped, run_stepped}
use Rattle.bits.proofs.CursorLaws.{hands-small}
use Rattle.strip.proofs.operations.run.Goals as goal

pub returns-then-not-holds : goal.returns-then-not-holds
returns-then-not-holds c = λ w s held full is-run.
    let a = c.args in
    rw c.into.ensures (run_cut_stepped w a.total s a.st c.requires.1 is-run full (c.holds.ensures.1 c.if-not-holds.true))

pub take-requires : goal.take-requires
take-requires c = (omega (arith, c.holds.ensures.0 c.if-not-holds.false), c.requires.0)

pub take-number-requires : goal.take-number-requires
take-number-requires c =
    let held = c.holds.ensures.0 c.if-not-holds.false in
    let fewer = c.take.ensures.fewer in
    (omega (arith, held, fewer), omega (arith, fewer, c.requires.0))

pub run_pixels-requires : goal.run_pixels-requires
run_pixels-requires c = hands-small c.take-number.ensures

pub returns-then-total-to : goal.returns-then-total-to
returns-then-total-to c =
    let number = c.run_pixels in let two = c.take-number in
    let one = c.take in let a = c.args in let pre = c.requires in
    λ w s held full is-run.
    rw c.into-then-total-to.ensures (run-past_stepped w a.total s a.st pre.1 is-run one.result.next two.result.next _ _ number.result
    one.ensures two.ensures number.ensures.0 number.ensures.1 c.if-total-to.true)

pub returns : goal.returns
returns c =
    let number = c.run_pixels in let two = c.take-number in
    let one = c.take in let a = c.args in
    let pre = c.requires in
    λ w s held full is-run.
    run_stepped w a.total s a.st pre.1 is-run one.result.next two.result.next _ _ number.result
    one.ensures two.ensures number.ensures.0 number.ensures.1 held (omega (arith, c.if-total-to.false))
