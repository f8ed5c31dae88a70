use Rattle.std.proofs.Common.{◌∙◌, arith}
use Rattle.number.specs.Number.{be32_bytes}
use Rattle.number.proofs.StoreLaws.{copied_is, be32_given}
use Rattle.number.proofs.put_be32.Goals as goal

pub returns : goal.returns
unfolding be32_bytes
returns c =
    copied_is _ _ _ _ _ (c.copy_from_slice.ensures.after ∙ c.to_be_bytes.ensures ∙ be32_given c.args.x) (omega arith) c.requires
