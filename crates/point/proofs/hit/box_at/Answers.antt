use Rattle.point.proofs.TableLaws.{box_set, box_home}
use Rattle.point.proofs.hit.box_at.Goals as goal

pub returns-then-at : goal.returns-then-at
returns-then-at c =
    let at = c.place_of-at in
    let A = c.args in let pre = c.requires in
    let stands = box_set A.boxes.now A.places.now A.size A.o pre.3 pre.4 at.result at.ensures.0 c.if-at.true in
    (stands.0, stands.1, at.ensures.1, at.ensures.2)

pub returns : goal.returns
returns c =
    let y = c.cell-y in
    let x = c.cell-x in
    let at = c.place_of-at in
    let A = c.args in let pre = c.requires in
    let stands = box_home A.boxes.now A.places.now A.size A.o pre.3 pre.4 at.result at.ensures.0 c.if-at.false
    x.result y.result x.ensures.0 y.ensures.0 in
    (stands.0, stands.1, x.ensures.1, y.ensures.1)
