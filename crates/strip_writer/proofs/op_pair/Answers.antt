use Rattle.std.proofs.Common.{ℕ, ◌+◌, ◌≤◌, ap, ◌∙◌, arith, pow_mono, shl_exact, rules}
use Rattle.strip_writer.specs.Pixels.{step_of}
use Rattle.strip_writer.proofs.SizeLaws.{Unit, unit_after}
use Rattle.strip_writer.proofs.BitWriterLaws.{join_low, op_joined}
use Rattle.strip_writer.proofs.op_pair.Goals as goal

pub op_for-two-requires : goal.op_for-two-requires
op_for-two-requires c =
    let u : Unit c.args.step = record { rest = c.requires; byte = search rules } in
    (unit_after _ _ _ _ u c.op_for-one.ensures.after).rest

pub overflow_add-result-2 : goal.overflow_add-result-2
overflow_add-result-2 c =
    let one = c.op_for-one.result in
    let two = c.op_for-two.result in
    let f = c.op_for-one.ensures in
    let g = c.op_for-two.ensures in
    let s = shl_exact two.count one.count 32 g.low (omega (arith, f.few, g.few)) in
    let l = join_low one.count one.value two.count two.value f.low g.low in
    let m : one.count + two.count ≤ 20 = omega (arith, f.few, g.few) in
    record { fits = omega (arith, s, l, pow_mono m) }

pub returns : goal.returns
returns c =
    let op-for2 = c.op_for-two in
    let op-for = c.op_for-one in let args = c.args in
    let one = op-for.result in
    let two = op-for2.result in
    let f = op-for.ensures in
    let g = op-for2.ensures in
    let s = shl_exact two.count one.count 32 g.low (omega (arith, f.few, g.few)) in
    let l = join_low one.count one.value two.count two.value f.low g.low in
    (rw s (op_joined _ _ _ _ one two f g), omega (arith, f.few, g.few), rw s l, g.after ∙ ap (λ (t : ℕ). step_of args.v t args.next) f.after)
