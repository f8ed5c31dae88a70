use Rattle.strip_test.specs.declared.leap.Spot.{Spot}
use Rattle.strip_test.proofs.LeapLaws.{leapt_on, leapt_start}
use Rattle.strip_test.proofs.leap.start_two.Goals as goal

pub leaps-requires : goal.leaps-requires
leaps-requires c =
    let way = c.args.u in let two = c.leaps_in_two-two.ensures in
    let g = two.2 way.w way.few (c.widen_rows-tx.ensures.1 way.second c.rows.ensures) in
    (c.widen_rows-tx.ensures.0, two.0, g.inside, g.room, c.requires.1)

pub state_at-requires : goal.state_at-requires
state_at-requires c =
    let way = c.args.u in
    (c.leaps.ensures way.w way.few (c.widen_rows-tx.ensures.1 way.second c.rows.ensures)).inside

pub leaps-requires-2 : goal.leaps-requires-2
leaps-requires-2 c =
    let way = c.args.v in let two = c.leaps_in_two-two.ensures in
    let g = two.3 way.w way.few (c.widen_rows-ty.ensures.1 way.second c.rows-2.ensures) in
    (c.widen_rows-ty.ensures.0, two.1, g.inside, g.room, c.requires.1)

pub state_at-requires-2 : goal.state_at-requires-2
state_at-requires-2 c =
    let way = c.args.v in
    (c.leaps-2.ensures way.w way.few (c.widen_rows-ty.ensures.1 way.second c.rows-2.ensures)).inside

pub returns : goal.returns
returns c =
    let a = c.args in let u = c.args.u in let v = c.args.v in
    let two = c.leaps_in_two-two in let la = c.leaps in let lb = c.leaps-2 in let sa = c.state_at in let sb = c.state_at-2 in
    let rx = c.widen_rows-tx.ensures.1 u.second c.rows.ensures in let ry = c.widen_rows-ty.ensures.1 v.second c.rows-2.ensures in
    let first : Spot = record { p = 16; i = 1 } in
    let x = a.x.now in
    let y = a.y.now in
    let ga = leapt_on u.second u.w a.total x first two.result.a la.result (two.ensures.2 u.w u.few rx) (la.ensures u.w u.few rx) in
    let gb = leapt_on v.second v.w a.total y first two.result.b lb.result (two.ensures.3 v.w v.few ry) (lb.ensures v.w v.few ry) in
    let ra = leapt_start u.second u.w a.total x la.result sa.result c.requires.0 ga sa.ensures.0 sa.ensures.2 in
    let rb = leapt_start v.second v.w a.total y lb.result sb.result c.requires.0 gb sb.ensures.0 sb.ensures.2 in
    ((ra.0, sa.ensures.1, ra.1), (rb.0, sb.ensures.1, rb.1))
