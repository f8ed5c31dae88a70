use Rattle.std.proofs.Common.{[], sym, ◌∙◌, le_trans}
use Rattle.strip_writer.proofs.BitWriterLaws.{further}
use Rattle.strip_writer.proofs.finish.Goals as goal

pub returns : goal.returns
returns c =
    let last_byte = c.last_byte in let flush = c.flush-rest in let args = c.args in
    let f = flush.ensures.0 in
    let l = last_byte.ensures in
    (l.0 ∙ sym (f.same []), l.1 ∙ further _ args.out.now _ _ l.2 f.past, le_trans f.on l.2, l.3)
