use Rattle.std.proofs.Common.{ℕ, subst, arith}
use Rattle.strip.proofs.PlaceLaws.{refuses, none_stepped, keep_stepped, op_stepped, one-first}
use Rattle.bits.specs.Reader.{Hands}
use Rattle.bits.specs.Bits.{rest}
use Rattle.strip.proofs.operations.one.Goals as goal

pub returns-then-not-holds : goal.returns-then-not-holds
returns-then-not-holds c = λ s held full no_run.
    let a = c.args in
    rw c.into.ensures (none_stepped a.second a.w a.total s a.st c.requires.2 full (c.holds.ensures.1 c.if-not-holds.true))

pub take-first-requires : goal.take-first-requires
take-first-requires c = (c.holds.ensures.0 c.if-not-holds.false, c.requires.1)

pub returns-then-first-eq0 : goal.returns-then-first-eq0
returns-then-first-eq0 c =
    let taken = c.take-first in let a = c.args in let pre = c.requires in
    λ s held full no_run.
    rw c.kept.ensures (keep_stepped a.second a.w a.total s a.st pre.2 held taken.result.next
    (subst (λ (v : ℕ). Hands 1 v a.st.cur taken.result.next) c.if-first-eq0.true taken.ensures))

pub returns-then-not-whole : goal.returns-then-not-whole
returns-then-not-whole c =
    let if2 = c.if-first-eq0 in let taken = c.take-first in
    let a = c.args in let pre = c.requires in
    λ s held full no_run.
    rw c.into-then-not-whole.ensures (refuses a.second a.w a.total s a.st 7 pre.2
    (c.whole.ensures.1 c.if-not-whole.true s full
    (one-first (rest s a.st.cur) (rest s taken.result.next) taken.result.value (taken.ensures.front s) if2.false) a.st.colour a.st.step))

pub op-requires : goal.op-requires
op-requires c =
    let pre = c.requires in
    (pre.0, c.whole.ensures.0 c.if-not-whole.false, pre.1, omega (arith, pre.2, pre.3))

pub returns : goal.returns
returns c =
    let if2 = c.if-first-eq0 in let taken = c.take-first in let a = c.args in let pre = c.requires in
    λ s held full no_run.
    op_stepped a.second a.w a.total s a.st pre.2 held c.op.result c.op.ensures
    (one-first (rest s a.st.cur) (rest s taken.result.next) taken.result.value (taken.ensures.front s) if2.false) no_run
