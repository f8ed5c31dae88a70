use Rattle.std.proofs.Common.{sym, ◌∙◌}
use Rattle.strip_writer.proofs.RowOpLaws.{body_none, body_some, rows_none}
use Rattle.strip_writer.proofs.write_rows.Goals as goal

pub returns-then-all_zero : goal.returns-then-all_zero
returns-then-all_zero c =
    let args = c.args in
    rows_none args.rows.now args.out.now (body_none args.rows.now (sym c.if-all_zero.true ∙ c.all_zero.ensures))

pub write_ops-requires : goal.write_ops-requires
write_ops-requires c =
    let all-zero = c.all_zero in let args = c.args in
    let pre = c.requires in
    rw (body_some args.rows.now (sym c.if-all_zero.false ∙ all-zero.ensures)) at (pre)

pub returns : goal.returns
returns c =
    let write-ops = c.write_ops in let if1 = c.if-all_zero in
    let all-zero = c.all_zero in let args = c.args in
    rw (body_some args.rows.now (sym if1.false ∙ all-zero.ensures)) write-ops.ensures
