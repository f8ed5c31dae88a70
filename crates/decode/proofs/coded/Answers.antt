use Rattle.std.proofs.Common.{rules, ◌≡◌, ℕ, List, ◌∙◌, ap, sym, Err}
use Rattle.strip.proofs.PictureLaws.{answered-no, answered_yes, coded_none, coded_some, coded_empty, placed-take}
use Rattle.strip.specs.Picture.{shown}
use Rattle.number.specs.Buffer.{over}
use Rattle.decode.proofs.coded.Goals as goal

pub returns-then-body-lt2 : goal.returns-then-body-lt2
returns-then-body-lt2 c =
    let a = c.args in
    rw c.into.ensures (answered-no _ a.out.now _ (coded_none a.second a.vertical a.clear a.w a.h a.body.now c.if-body-lt2.true))

pub returns-then-h-eq0 : goal.returns-then-h-eq0
returns-then-h-eq0 c =
    let args = c.args in
    let a = args in coded_empty a.second a.vertical a.clear a.w a.h a.body.now a.out.now c.if-body-lt2.false c.if-h-eq0.true

pub returns-in_err-paint_bits : goal.returns-in_err-paint_bits
returns-in_err-paint_bits c =
    let a = c.args in
    let passed : c.from_residual.result ≡ Err c.in_err-paint_bits.field-0.0 = search rules in
    rw passed (answered-no _ a.out.now _
    (coded_some a.second a.vertical a.clear a.w a.h a.body.now c.if-body-lt2.false ∙ ap (shown a.vertical a.clear a.h) c.in_err-paint_bits.ensures))

pub returns : goal.returns
returns c =
    let a = c.args in
    answered_yes _ _ _ _ _
    (coded_some a.second a.vertical a.clear a.w a.h a.body.now c.if-body-lt2.false ∙ ap (shown a.vertical a.clear a.h) c.in_ok-paint_bits.ensures)
    (c.place.ensures ∙ ap (λ (t : List ℕ). over t a.out.now) (sym (placed-take a.vertical a.h _)))
