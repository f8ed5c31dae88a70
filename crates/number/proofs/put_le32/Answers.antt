use Rattle.std.proofs.Common.{◌∙◌, arith}
use Rattle.number.specs.Number.{le32_bytes}
use Rattle.number.proofs.StoreLaws.{copied_is, le32_given}
use Rattle.number.proofs.put_le32.Goals as goal

pub returns : goal.returns
unfolding le32_bytes
returns c =
    copied_is _ _ _ _ _ (c.copy_from_slice.ensures.after ∙ c.to_le_bytes.ensures ∙ le32_given c.args.x) (omega arith) c.requires
