use Rattle.std.proofs.Common.{not, eqb, arith}
use Rattle.decode.proofs.PaintLaws.{turned_many}
use Rattle.decode.proofs.groups.turn.Goals as goal

pub groups-requires : goal.groups-requires
groups-requires g c =
    let fits2 = c.fits in let refill = c.refill-st in
    let pre = c.requires in
    let f = refill.ensures in
    let ok = fits2.ensures c.if-fits.true in
    (pre.0, ok.enough, f.3.few, omega (arith, ok.room, pre.3), omega (arith, ok.room, pre.4))

pub returns-then-fits : goal.returns-then-fits
returns-then-fits g c =
    let groups = c.groups in let if1 = c.if-fits in
    let fits2 = c.fits in let refill = c.refill-st in
    let a = c.args in
    let f = refill.ensures in
    let ok = fits2.ensures if1.true in
    turned_many (not (eqb g.row.SECOND 0)) a.w a.total a.body.now a.from refill.result f.0 f.1 f.2 f.5 32 groups.result a.out.now _
    groups.ensures.advances (groups.ensures.moves_on a.body.now (ok.none a.body.now)) ok.room f.3

pub group-requires : goal.group-requires
group-requires g c =
    let fits3 = c.fits-2 in let refill = c.refill-st in
    let pre = c.requires in
    let f = refill.ensures in
    let ok = fits3.ensures c.if-fits-2.true in
    (pre.0, ok.enough, f.3.few, omega (arith, ok.room, pre.3), omega (arith, ok.room, pre.4))

pub returns-then-fits-2 : goal.returns-then-fits-2
returns-then-fits-2 g c =
    let group = c.group in let if2 = c.if-fits-2 in
    let fits3 = c.fits-2 in let refill = c.refill-st in
    let a = c.args in
    let f = refill.ensures in
    let ok = fits3.ensures if2.true in
    turned_many (not (eqb g.row.SECOND 0)) a.w a.total a.body.now a.from refill.result f.0 f.1 f.2 f.5 9 group.result a.out.now _
    group.ensures.3 (group.ensures.2 a.body.now (ok.none a.body.now)) ok.room f.3
