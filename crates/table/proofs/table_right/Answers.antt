use Rattle.std.proofs.Common.{arith, suc, ◌+◌, ◌-◌, ◌≡◌, sym, ◌∙◌}
use Rattle.table.proofs.TableLaws.{offsets_none, offsets_pass, offsets_next, offsets_wrong, table-short, table_fits}
use native.Mathlib.Nat.{sub-zero}
use Rattle.table.proofs.table_right.Goals as goal

pub returns-then-size-low : goal.returns-then-size-low
returns-then-size-low c = table-short _ _ _ _ _ _ c.table_end-low.ensures c.if-size-low.true

pub loop-k-init : goal.loop-k-init
loop-k-init c = rw sub-zero (sym (table_fits _ _ _ _ _ _ c.table_end-low.ensures c.if-size-low.false))

pub loop-k-preserved-then-mask-offset : goal.loop-k-preserved-then-mask-offset
loop-k-preserved-then-mask-offset c =
    let loop = c.loop-k in let args = c.args in
    let more : args.n - loop.k ≡ suc (args.n - (loop.k + 1)) = omega arith in
    sym (offsets_pass _ _ _ _ _ _ _ _ _ _ more c.offset_at-offset.ensures.0 c.if-mask-offset.true) ∙ loop.invariant

pub loop-k-preserved : goal.loop-k-preserved
loop-k-preserved c =
    let loop = c.loop-k in let args = c.args in
    let more : args.n - loop.k ≡ suc (args.n - (loop.k + 1)) = omega arith in
    let right = sym c.offset_right.ensures ∙ c.if-not-offset_right.false in
    sym (offsets_next _ _ _ _ _ _ _ _ _ _ more c.offset_at-offset.ensures.0 c.if-mask-offset.false right) ∙ loop.invariant

pub returns-then-not-offset_right : goal.returns-then-not-offset_right
returns-then-not-offset_right c =
    let loop = c.loop-k in let args = c.args in
    let more : args.n - loop.k ≡ suc (args.n - (loop.k + 1)) = omega arith in
    let wrong = sym c.offset_right.ensures ∙ c.if-not-offset_right.true in
    sym (offsets_wrong _ _ _ _ _ _ _ _ _ _ more c.offset_at-offset.ensures.0 c.if-mask-offset.false wrong) ∙ loop.invariant

pub returns : goal.returns
returns c = sym (offsets_none _ _ _ _ _ _ _ _ (omega arith)) ∙ c.loop-k.invariant
