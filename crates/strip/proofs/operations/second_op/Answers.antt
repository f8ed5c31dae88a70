use Rattle.std.proofs.Common.{ℕ, ◌+◌, [], refl, ap, ◌∙◌, subst, arith}
use Rattle.strip.proofs.OpLaws.{second-leads}
use Rattle.strip.specs.Strip.{minus}
use Rattle.bits.specs.Reader.{Hands}
use Rattle.strip.proofs.operations.second_op.Goals as goal

pub take-head-requires : goal.take-head-requires
take-head-requires c = (c.requires.1.two, c.requires.2)

pub take-requires : goal.take-requires
take-requires c =
    let head = c.take-head in let pre = c.requires in
    (rw c.length_of.ensures.0 (pre.1.all [] head.result.value _ (head.ensures.front [])), pre.2)

pub returns : goal.returns
returns c =
    let either = c.either in let index = c.peek-2 in let taken = c.take in let length = c.length_of in let changed = c.less-changed in
    let more = c.more in let number = c.peek in let head = c.take-head in
    let a = c.args in
    record {
      on = refl;
      few = omega (arith, taken.ensures.fewer, length.ensures.1);
      fewer = omega (arith, taken.ensures.fewer);
      held = taken.ensures.held;
      leads = λ s one no_run.
          second-leads a.w s a.st
          (record { i = a.st.i + 1; colour = either.result; step = c.either-2.result; cur = taken.result.next })
          head.result.next head.result.value taken.result.value head.ensures one
          changed.result number.result index.result
          (changed.ensures ∙ ap (λ (x : ℕ). minus x 4) more.ensures)
          no_run number.ensures index.ensures
          (subst (λ (n : ℕ). Hands n taken.result.value a.st.cur taken.result.next) length.ensures.0 taken.ensures)
          either.ensures c.either-2.ensures;
    }
