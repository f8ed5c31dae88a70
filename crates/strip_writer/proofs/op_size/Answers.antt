use Rattle.std.proofs.Common.{◌≡◌, ℕ, ◌<◌, ◌≤◌, subst, rules}
use Rattle.strip.specs.Strip.{minus}
use Rattle.strip.proofs.StripLaws.{minus_of}
use Rattle.strip_writer.proofs.SizeLaws.{op_count, size_near, size_far}
use Rattle.strip_writer.proofs.BitWriterLaws.{op_keep}
use Rattle.strip_writer.proofs.op_size.Goals as goal

pub returns-then-v-colour : goal.returns-then-v-colour
returns-then-v-colour c = op_count _ _ _ _ (op_keep c.args.colour 1 c.args.v c.if-v-colour.true)

pub returns-then-wrapping_add_u8-lt3 : goal.returns-then-wrapping_add_u8-lt3
returns-then-wrapping_add_u8-lt3 c =
    let wrapping-sub-u8 = c.wrapping_sub_u8 in let if1 = c.if-v-colour in
    let a = c.args in
    let m : minus a.colour a.v ≡ wrapping-sub-u8.result = minus_of _ _ _ (search rules) wrapping-sub-u8.type_inv wrapping-sub-u8.ensures.value in
    size_near _ _ _ (search rules) (search rules) m if1.false (subst (λ (k : ℕ). k < 3) c.wrapping_add_u8.ensures.value c.if-wrapping_add_u8-lt3.true)

pub returns : goal.returns
returns c =
    let wrapping-sub-u8 = c.wrapping_sub_u8 in let if1 = c.if-v-colour in
    let a = c.args in
    let m : minus a.colour a.v ≡ wrapping-sub-u8.result = minus_of _ _ _ (search rules) wrapping-sub-u8.type_inv wrapping-sub-u8.ensures.value in
    size_far _ _ _ (search rules) (search rules) m if1.false (subst (λ (k : ℕ). 3 ≤ k) c.wrapping_add_u8.ensures.value c.if-wrapping_add_u8-lt3.false)
