use Rattle.std.proofs.Common.{◌∙◌, arith}
use Rattle.number.specs.Number.{le16_bytes}
use Rattle.number.proofs.StoreLaws.{copied_is, le16_given}
use Rattle.number.proofs.put_le16.Goals as goal

pub returns : goal.returns
unfolding le16_bytes
returns c =
    copied_is _ _ _ _ _ (c.copy_from_slice.ensures.after ∙ c.to_le_bytes.ensures ∙ le16_given c.args.x) (omega arith) c.requires
