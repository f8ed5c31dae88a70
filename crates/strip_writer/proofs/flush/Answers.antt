use Rattle.std.proofs.Common.{◌∙◌, arith}
use Rattle.strip_writer.proofs.BitWriterLaws.{then_flush}
use Rattle.strip_writer.proofs.flush.Goals as goal

pub returns : goal.returns
returns c =
    let flush-byte4 = c.flush_byte in let flush-byte3 = c.flush_byte-three in let flush-byte2 = c.flush_byte-two in let flush-byte = c.flush_byte-one in
    let one = flush-byte.ensures in
    let two = flush-byte2.ensures in
    let three = flush-byte3.ensures in
    let four = flush-byte4.ensures in (
      then_flush _ _ _ _ _ _ _ (then_flush _ _ _ _ _ _ _ (then_flush _ _ _ _ _ _ _ one.0 two.0) three.0) four.0,
      four.1 ∙ three.1 ∙ two.1 ∙ one.1,
      omega (arith, one.2, two.2, three.2, four.2),
    )
