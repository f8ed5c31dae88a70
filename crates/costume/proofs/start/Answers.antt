use Rattle.std.proofs.Common.{sym, ◌∙◌, arith}
use Rattle.costume.proofs.StartLaws.{numbers_in, defined-some, start-tested, start-held}
use Rattle.costume.proofs.start.Goals as goal

-- `costume::start` meets its contract. Assumes nothing.

pub offset_at-offset-requires : goal.offset_at-offset-requires
offset_at-offset-requires c = numbers_in _ _ _ _ _ (start-tested _ _ _ _ _ _ _ c.in_ok-check_start.ensures).numbers

pub is_defined-requires : goal.is_defined-requires
is_defined-requires c = start-held _ _ _ _ _ _ _ (start-tested _ _ _ _ _ _ _ c.in_ok-check_start.ensures) _ c.offset_at-offset.ensures.0

pub overflow_sub-offset : goal.overflow_sub-offset
overflow_sub-offset c =
    let h = start-held _ _ _ _ _ _ _ (start-tested _ _ _ _ _ _ _ c.in_ok-check_start.ensures) _ c.offset_at-offset.ensures.0
    (defined-some c.args.payload.now _ (sym c.is_defined.ensures ∙ c.if-not-is_defined.false)) in
    omega (arith, h)

pub begin_limbs-requires : goal.begin_limbs-requires
begin_limbs-requires c =
    let a = start-tested _ _ _ _ _ _ _ c.in_ok-check_start.ensures in
    let h = start-held _ _ _ _ _ _ _ a _ c.offset_at-offset.ensures.0
    (defined-some c.args.payload.now _ (sym c.is_defined.ensures ∙ c.if-not-is_defined.false)) in
    (omega arith, h.1, a.whole)
