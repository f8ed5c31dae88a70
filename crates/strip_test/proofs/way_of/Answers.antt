use Rattle.std.proofs.Common.{sym, ap, ◌∙◌, arith, drop}
use Rattle.strip.specs.Picture.{by_kind}
use Rattle.strip_test.specs.Outcome.{test_of}
use Rattle.strip_test.proofs.OutcomeLaws.{test-coded}
use Rattle.strip.proofs.PictureLaws.{told_width, strip-some}
use Rattle.strip_test.proofs.way_of.Goals as goal

pub returns-in-Coded : goal.returns-in-Coded
returns-in-Coded c =
    let k = c.in-Coded in let s = c.args.body.now in let h = c.args.h in
    let long = c.if-body-lt96.false in
    let width = told_width k.is c.kind_of.ensures.1 in
    let whole = test-coded k.second k.vertical k.clear k.width h s (omega (arith, long)) in
    let same = strip-some h s (omega (arith, long)) ∙ ap (by_kind h (drop 1 s)) (sym c.kind_of.ensures.0 ∙ k.is) in
    (width.1, omega (arith, c.if-h-eq0.false), omega (arith, long), sym (ap test_of same ∙ whole))
