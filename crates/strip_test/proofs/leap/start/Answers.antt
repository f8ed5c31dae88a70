use Rattle.std.proofs.Common.{arith}
use Rattle.strip_test.proofs.LeapLaws.{leapt_none, leapt_start}
use Rattle.strip_test.specs.declared.leap.Spot.{Spot}
use Rattle.strip_test.proofs.leap.start.Goals as goal

pub returns-then-body-lt96 : goal.returns-then-body-lt96
returns-then-body-lt96 c =
    let a = c.args in let pre = c.requires in
    let s = a.body.now in
    let at = c.state_at.ensures in
    let first : Spot = record { p = 16; i = 1 } in
    let g = leapt_none a.way.second a.way.w a.total s first pre.0 (omega (arith, pre.2)) in
    let r = leapt_start a.way.second a.way.w a.total s first c.state_at.result pre.0 g at.0 at.2 in
    (r.0, at.1, r.1)

pub state_at-requires-2 : goal.state_at-requires-2
state_at-requires-2 c =
    let way = c.args.way in
    (c.leaps.ensures way.w way.few (c.widen_rows-table.ensures.1 way.second c.rows.ensures)).inside

pub returns : goal.returns
returns c =
    let a = c.args in let way = c.args.way in
    let at = c.state_at-2.ensures in
    let g = c.leaps.ensures way.w way.few (c.widen_rows-table.ensures.1 way.second c.rows.ensures) in
    let r = leapt_start way.second way.w a.total a.body.now c.leaps.result c.state_at-2.result c.requires.0 g at.0 at.2 in
    (r.0, at.1, r.1)
