use Rattle.std.proofs.Common.{ℕ, ◌+◌, cond, eqb, [], refl, ap, ◌∙◌, subst, arith}
use Rattle.strip.proofs.OpLaws.{first-leads}
use Rattle.bits.specs.Reader.{Hands}
use Rattle.strip.proofs.operations.first_op.Goals as goal

pub take-head-requires : goal.take-head-requires
take-head-requires c = (c.requires.1.two, c.requires.2)

pub take-requires : goal.take-requires
take-requires c =
    let head = c.take-head in
    let pre = c.requires in
    (rw c.length_of.ensures.0 (pre.1.all [] head.result.value _ (head.ensures.front [])), pre.2)

pub returns : goal.returns
returns c =
    let either2 = c.either in let index = c.peek-2 in let taken = c.take in let length = c.length_of in let walked = c.less-walked in
    let turned = c.either-turned in let less = c.less in let sign = c.peek in let head = c.take-head in let a = c.args in
    record {
      on = refl;
      few = omega (arith, taken.ensures.fewer, length.ensures.1);
      fewer = omega (arith, taken.ensures.fewer);
      held = taken.ensures.held;
      leads = λ s one no_run.
          first-leads a.w s a.st
          (record { i = a.st.i + 1; colour = either2.result; step = c.either-2.result; cur = taken.result.next })
          head.result.next head.result.value taken.result.value head.ensures one
          turned.result walked.result sign.result index.result
          (turned.ensures ∙ ap (λ (x : ℕ). cond (eqb sign.result 1) x a.st.step) less.ensures)
          walked.ensures sign.ensures index.ensures
          (subst (λ (n : ℕ). Hands n taken.result.value a.st.cur taken.result.next) length.ensures.0 taken.ensures)
          either2.ensures c.either-2.ensures;
    }
