use Rattle.std.proofs.Common.{arith}
use Rattle.strip_test.proofs.SkipLaws.{tested_many, tested_from, outcome_stepped}
use Rattle.strip_test.proofs.turn.Goals as goal

pub skip_many-to-requires : goal.skip_many-to-requires
skip_many-to-requires c =
    let refill = c.refill-st in let pre = c.requires in
    let f = refill.ensures in
    let ok = c.fits.ensures c.if-fits.true in
    (omega arith, c.rows-rows.ensures.fits, c.args.way.few, ok.enough, f.3.few, omega (arith, ok.room, pre.2))

pub returns-then-st-to : goal.returns-then-st-to
returns-then-st-to c =
    let skip-many = c.skip_many-to in let if1 = c.if-fits in
    let fits2 = c.fits in let refill = c.refill-st in
    let a = c.args in let pre = c.requires in
    let s = a.body.now in
    let f = refill.ensures in
    let g = skip-many.ensures in
    let ok = fits2.ensures if1.true in
    tested_many a.way.second a.way.w a.total s a.from refill.result f.0 f.5 skip-many.result (g.3 a.way.second s c.rows-rows.ensures) c.if-st-to.true
    (omega (arith, g.1, ok.room)) (g.2 s f.3)

pub skip-to-requires : goal.skip-to-requires
skip-to-requires c =
    let refill = c.refill-st in
    let pre = c.requires in
    let f = refill.ensures in
    let ok = c.fits-2.ensures c.if-fits-2.true in
    (omega arith, c.rows-rows.ensures.fits, c.args.way.few, ok.enough, f.3.few, omega (arith, ok.room, pre.2))

pub returns-then-st-to-2 : goal.returns-then-st-to-2
returns-then-st-to-2 c =
    let skip = c.skip-to in let if3 = c.if-fits-2 in
    let fits3 = c.fits-2 in let refill = c.refill-st in
    let a = c.args in let pre = c.requires in
    let s = a.body.now in
    let f = refill.ensures in
    let g = skip.ensures in
    let ok = fits3.ensures if3.true in
    tested_many a.way.second a.way.w a.total s a.from refill.result f.0 f.5 skip.result (g.5 a.way.second s c.rows-rows.ensures) c.if-st-to-2.true
    (omega (arith, g.3, ok.room)) (g.4 s f.3)

pub returns : goal.returns
returns c =
    let refill = c.refill-st in
    let a = c.args in
    let s = a.body.now in
    let f = refill.ensures in
    tested_from a.way.second a.way.w a.total s a.from refill.result f.0 f.5 c.step.result
    (outcome_stepped a.way.second a.way.w a.total s refill.result c.step.result (c.step.ensures s f.3 f.4))
