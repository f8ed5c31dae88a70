use Rattle.std.proofs.Common.{◌≡◌, sym, ◌∙◌, suc, ◌+◌, ◌-◌, ◌*◌, arith, rules, Err}
use native.Mathlib.Nat.{sub-zero}
use Rattle.table.specs.Test.{strip_test, block_test}
use Rattle.table.proofs.TestLaws.{leftmost-none, two_pass, two_stop, leftmost-last}
use Rattle.table.proofs.test_block.Goals as goal

pub returns-then-not-table_right : goal.returns-then-not-table_right
unfolding block_test
returns-then-not-table_right c = rw (c.into.ensures, ← c.table_right.ensures, c.if-not-table_right.true)

pub loop-i-init : goal.loop-i-init
unfolding block_test
loop-i-init c = rw (sub-zero, ← c.table_right.ensures, c.if-not-table_right.false)

pub loop-i-preserved : goal.loop-i-preserved
loop-i-preserved c =
    let loop = c.loop-i in let n = c.args.n in
    let more : n - 2 * loop.i ≡ suc (suc (n - (2 * loop.i + 2))) = omega arith in
    let next : 2 * (loop.i + 1) ≡ 2 * loop.i + 2 = omega arith in
    rw next (sym (two_pass _ _ _ _ more (sym c.test_pair.ensures ∙ c.in_ok-test_pair.was)) ∙ loop.invariant)

pub returns-in_err-test_pair : goal.returns-in_err-test_pair
returns-in_err-test_pair c =
    let loop = c.loop-i in let n = c.args.n in
    let more : n - 2 * loop.i ≡ suc (suc (n - (2 * loop.i + 2))) = omega arith in
    let passed : c.from_residual.result ≡ Err c.in_err-test_pair.field-0.0 = search rules in
    passed ∙ sym (two_stop _ _ _ _ more _ (sym c.test_pair.ensures ∙ c.in_err-test_pair.was)) ∙ loop.invariant

pub returns-then-n-eq0 : goal.returns-then-n-eq0
returns-then-n-eq0 c = sym (leftmost-none _ _ _ (omega (arith, c.if-n-eq0.true))) ∙ c.loop-i.invariant

pub returns : goal.returns
returns c =
    let a = c.args in let loop = c.loop-i in
    let one : a.n - 2 * loop.i ≡ 1 = omega (arith, c.if-n-eq0.false) in
    let last : a.n - 1 ≡ 2 * loop.i = omega (arith, c.if-n-eq0.false) in
    rw last at c.test_strip.ensures ∙ sym (leftmost-last (strip_test a.mask a.n a.h _ a.b a.z) _ _ one) ∙ loop.invariant
