use Rattle.std.proofs.Common.{◌≡◌, ℕ, ◌<◌, ◌≤◌, subst, rules}
use Rattle.strip.specs.Strip.{minus}
use Rattle.strip.proofs.StripLaws.{minus_of}
use Rattle.strip_writer.proofs.SizeLaws.{far_down, far_up, near_down, not-down, near_turn, near_up}
use Rattle.strip_writer.proofs.BitWriterLaws.{op_keep, op_down, op_up, op_new}
use Rattle.strip_writer.proofs.op_for.Goals as goal

pub returns-then-v-colour : goal.returns-then-v-colour
returns-then-v-colour c = op_keep _ _ _ c.if-v-colour.true

pub returns-then-wrapping_add_u8-ge3 : goal.returns-then-wrapping_add_u8-ge3
returns-then-wrapping_add_u8-ge3 c =
    let wrapping-sub-u8 = c.wrapping_sub_u8-turn in let if1 = c.if-v-colour in
    let a = c.args in let pre = c.requires in
    let m : minus a.colour a.v ≡ wrapping-sub-u8.result = minus_of _ _ _ (search rules) wrapping-sub-u8.type_inv wrapping-sub-u8.ensures.value in
    let far = subst (λ (k : ℕ). 3 ≤ k) c.wrapping_add_u8.ensures.value c.if-wrapping_add_u8-ge3.true in
    let wide : c.from.result ≡ a.v = cc in
    rw wide (op_new _ _ _ if1.false
    (far_down _ _ _ (search rules) (search rules) m _ (search rules) (pre) far)
    (far_up _ _ _ (search rules) (search rules) m _ (search rules) (pre) far) (search rules))

pub returns-then-turn-step : goal.returns-then-turn-step
returns-then-turn-step c =
    let wrapping-sub-u8 = c.wrapping_sub_u8-turn in let if1 = c.if-v-colour in let a = c.args in
    let m : minus a.colour a.v ≡ wrapping-sub-u8.result = minus_of _ _ _ (search rules) wrapping-sub-u8.type_inv wrapping-sub-u8.ensures.value in
    op_down _ _ _ if1.false (near_down _ _ _ (search rules) (search rules) m _ c.if-turn-step.true)

pub returns : goal.returns
returns c =
    let wrapping-add-u8 = c.wrapping_add_u8 in let wrapping-sub-u8 = c.wrapping_sub_u8-turn in
    let if1 = c.if-v-colour in let a = c.args in
    let pre = c.requires in
    let m : minus a.colour a.v ≡ wrapping-sub-u8.result = minus_of _ _ _ (search rules) wrapping-sub-u8.type_inv wrapping-sub-u8.ensures.value in
    let near = subst (λ (k : ℕ). k < 3) wrapping-add-u8.ensures.value c.if-wrapping_add_u8-ge3.false in
    op_up _ _ _ if1.false (not-down _ _ _ (search rules) (search rules) m _ (search rules) (search rules) c.if-turn-step.false) _
    (near_turn _ _ _ (search rules) (search rules) m _ (search rules) (pre) if1.false near c.if-turn-step.false)
    (near_up _ _ _ (search rules) (search rules) m _ (search rules) (pre) if1.false near c.if-turn-step.false)
