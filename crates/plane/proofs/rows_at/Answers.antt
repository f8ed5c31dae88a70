use Rattle.plane.proofs.MaskLaws.{at_end, at_past-literals, at_short-literals, at_literals, at_past-copies, at_short-copies, at_copies}
use Rattle.plane.proofs.rows_at.Goals as goal

pub returns-then-body-at : goal.returns-then-body-at
returns-then-body-at c = rw c.into.ensures (at_end c.args.body.now c.args.at c.args.left c.requires c.if-body-at.true)

pub returns-then-left-b : goal.returns-then-left-b
returns-then-left-b c =
    let a = c.args in let byte = c.from-b.ensures in
    let low = rw byte at c.if-b-lt128.true in
    rw c.into-then-left-b.ensures (at_past-literals a.body.now a.at a.left c.requires c.if-body-at.false low (rw byte at c.if-left-b.true))

pub returns-then-more-b : goal.returns-then-more-b
returns-then-more-b c =
    let a = c.args in let byte = c.from-b.ensures in
    let low = rw byte at c.if-b-lt128.true in
    rw c.into-then-more-b.ensures
    (at_short-literals a.body.now a.at a.left c.requires c.if-body-at.false low (rw byte at c.if-left-b.false) (rw byte at c.if-more-b.true))

pub returns-then-b-lt128 : goal.returns-then-b-lt128
returns-then-b-lt128 c =
    let a = c.args in let byte = c.from-b.ensures in
    let low = rw byte at c.if-b-lt128.true in
    rw byte (at_literals a.body.now a.at a.left c.requires c.if-body-at.false low (rw byte at c.if-left-b.false) (rw byte at c.if-more-b.false))

pub returns-then-left-n : goal.returns-then-left-n
returns-then-left-n c =
    let a = c.args in let byte = c.from-b.ensures in
    let high = rw byte at c.if-b-lt128.false in
    rw c.into-then-left-n.ensures (at_past-copies a.body.now a.at a.left c.requires c.if-body-at.false high (rw byte at c.if-left-n.true))

pub returns-then-more-lt1 : goal.returns-then-more-lt1
returns-then-more-lt1 c =
    let a = c.args in let byte = c.from-b.ensures in
    let high = rw byte at c.if-b-lt128.false in
    rw c.into-then-more-lt1.ensures
    (at_short-copies a.body.now a.at a.left c.requires c.if-body-at.false high (rw byte at c.if-left-n.false) c.if-more-lt1.true)

pub returns : goal.returns
returns c =
    let a = c.args in let byte = c.from-b.ensures in
    let high = rw byte at c.if-b-lt128.false in
    rw byte (at_copies a.body.now a.at a.left c.requires c.if-body-at.false high (rw byte at c.if-left-n.false) c.if-more-lt1.false)
