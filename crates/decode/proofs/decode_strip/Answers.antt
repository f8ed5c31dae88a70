use Rattle.std.proofs.Common.{rules, ◌∙◌, ap, sym, arith, drop}
use Rattle.strip.specs.Picture.{by_kind}
use Rattle.strip.proofs.PictureLaws.{answered-no, answered_from, told_width, strip-none, strip-some}
use Rattle.decode.proofs.decode_strip.Goals as goal

pub returns-then-body-lt1 : goal.returns-then-body-lt1
returns-then-body-lt1 c = let a = c.args in rw c.into.ensures (answered-no _ a.out.now _ (strip-none a.h a.body.now c.if-body-lt1.true))

pub coded-requires : goal.coded-requires
coded-requires c =
    let wd = told_width c.in-Coded.is c.kind_of.ensures.1 in
    (omega (arith, wd.0), wd.1, search rules, omega arith, search rules)

pub returns-in-Raw : goal.returns-in-Raw
returns-in-Raw c =
    let raw = c.raw in let kind-of = c.kind_of in let if1 = c.if-body-lt1 in let a = c.args in
    let k = sym kind-of.ensures.0 ∙ c.in-Raw.is in
    answered_from a.out.now raw.new.out raw.result (strip-some a.h a.body.now if1.false ∙ ap (by_kind a.h (drop 1 a.body.now))
    k) raw.ensures

pub returns-in-Coded : goal.returns-in-Coded
returns-in-Coded c =
    let coded = c.coded in let kind-of = c.kind_of in let if1 = c.if-body-lt1 in
    let a = c.args in
    let k = sym kind-of.ensures.0 ∙ c.in-Coded.is in
    answered_from a.out.now coded.new.out coded.result
    (strip-some a.h a.body.now if1.false ∙ ap (by_kind a.h (drop 1 a.body.now)) k) coded.ensures

pub returns-in-Unknown : goal.returns-in-Unknown
returns-in-Unknown c =
    let a = c.args in
    let k = sym c.kind_of.ensures.0 ∙ c.in-Unknown.is in
    rw c.into-in-Unknown.ensures (answered-no _ a.out.now _ (strip-some a.h a.body.now c.if-body-lt1.false ∙ ap (by_kind a.h (drop 1 a.body.now)) k))
