use Rattle.std.proofs.Common.{ℕ, ◌<◌, ◌≤◌, length, sym, ◌∙◌, subst, true≢false, arith}
use Rattle.strip.proofs.OpLaws.{op_one, op_cut}
use Rattle.strip.specs.Place.{op_length, second_bit}
use Rattle.bits.proofs.CursorLaws.{all_held}
use Rattle.bits.proofs.BitLaws.{got-value}
use Rattle.bits.specs.Bits.{rest}
use Rattle.strip.proofs.operations.whole.Goals as goal

pub returns-else-holds : goal.returns-else-holds
returns-else-holds c = (
  (λ e. absurd (true≢false (sym e ∙ c.if-holds.false))),
  λ e s full one colour step.
      let cur = c.args.cur in
      let few = c.holds.ensures.1 c.if-holds.false in
      op_one c.args.second c.args.w colour step (rest s cur) one (rw (all_held s cur full (omega arith)) few),
)

pub take-requires : goal.take-requires
take-requires c = (c.holds.ensures.0 c.if-holds.true, c.requires.1)

pub returns-then-holds : goal.returns-then-holds
returns-then-holds c =
    let a = c.args in
    let head = c.take in
    let size = c.length_of in (
      (λ e. record {
        two = c.holds.ensures.0 c.if-holds.true;
        all = λ s v l p.
            let same = got-value (sym (head.ensures.front s) ∙ p) in
            subst (λ (x : ℕ). op_length a.second a.w (second_bit x) ≤ a.cur.bits) same
            (subst (λ (n : ℕ). n ≤ a.cur.bits) size.ensures.0 (c.holds-then-holds.ensures.0 e));
      }),
      λ e s full one colour step.
          let few = c.holds-then-holds.ensures.1 e in
          op_cut a.second a.w colour step head.result.value (rest s a.cur) (rest s head.result.next) (head.ensures.front s) one
          (subst (λ (n : ℕ). length (rest s a.cur) < n) size.ensures.0 (rw (all_held s a.cur full (omega arith)) few)),
    )
