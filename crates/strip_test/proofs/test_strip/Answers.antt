use Rattle.std.proofs.Common.{drop, sym, ap, ◌∙◌}
use Rattle.strip.proofs.PictureLaws.{strip-none, strip-some}
use Rattle.strip_test.specs.Outcome.{test_of}
use Rattle.strip.specs.Picture.{by_kind}
use Rattle.strip_test.proofs.test_strip.Goals as goal

pub returns-then-body-lt1 : goal.returns-then-body-lt1
returns-then-body-lt1 c = rw c.into.ensures (sym (ap test_of (strip-none c.args.h c.args.body.now c.if-body-lt1.true)))

pub returns-in-Raw : goal.returns-in-Raw
returns-in-Raw c =
    let kind-of = c.kind_of in let if1 = c.if-body-lt1 in
    let args = c.args in
    let k = sym kind-of.ensures.0 ∙ c.in-Raw.is in
    c.test_raw.ensures ∙ sym (ap test_of (strip-some args.h args.body.now if1.false ∙ ap (by_kind args.h (drop 1 args.body.now)) k))

pub returns-in-Coded : goal.returns-in-Coded
returns-in-Coded c =
    let kind-of = c.kind_of in
    let if1 = c.if-body-lt1 in let args = c.args in
    let k = sym kind-of.ensures.0 ∙ c.in-Coded.is in
    c.test_coded.ensures _ _ ∙ sym (ap test_of (strip-some args.h args.body.now if1.false ∙ ap (by_kind args.h (drop 1 args.body.now)) k))

pub returns-in-Unknown : goal.returns-in-Unknown
returns-in-Unknown c =
    let kind-of = c.kind_of in let if1 = c.if-body-lt1 in
    let args = c.args in
    let k = sym kind-of.ensures.0 ∙ c.in-Unknown.is in
    rw c.into-in-Unknown.ensures (sym (ap test_of (strip-some args.h args.body.now if1.false ∙ ap (by_kind args.h (drop 1 args.body.now)) k)))
