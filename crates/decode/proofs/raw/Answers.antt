use Rattle.std.proofs.Common.{◌∙◌, ap, List, false, ℕ, drop, length-drop, arith}
use Rattle.number.specs.Buffer.{over}
use Rattle.strip.specs.Picture.{placed}
use Rattle.strip.proofs.PictureLaws.{answered-no, answered_yes, part-one, raw_short, raw_full}
use Rattle.decode.proofs.raw.Goals as goal

pub returns-then-body-h : goal.returns-then-body-h
returns-then-body-h c =
    let a = c.args in
    let t = drop 1 a.body.now in
    rw c.into.ensures (answered-no _ a.out.now _ (raw_short a.h t (omega (arith, length-drop 1 a.body.now, c.if-body-h.true))))

pub returns : goal.returns
returns c =
    let measured = c.if-body-h in
    let a = c.args in
    let body = a.body.now in
    let full = raw_full a.h (drop 1 body) (omega (arith, length-drop 1 body, measured.false)) in
    answered_yes _ _ _ _ _ full (c.place.ensures ∙ ap (λ (t : List ℕ). over (placed false a.h t) a.out.now) (part-one body))
