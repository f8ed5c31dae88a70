use Rattle.std.proofs.Common.{arith, sym, ◌∙◌}
use Rattle.layers.proofs.SourceLaws.{plane-table, rows_read, rows_zero}
use Rattle.block.proofs.Laws.{nth_at}
use Rattle.layers.proofs.read.plane_rows.Goals as goal

-- `layers::read::plane_rows` meets its contract. Assumes nothing.

pub read_rows-requires : goal.read_rows-requires
read_rows-requires c =
    let p = c.requires.strip_readable in
    let at = sym c.in-Some.is ∙ c.plane_in.ensures in
    let in_room = nth_at _ _ _ _ _ _ _ at in record {
      strip_in_block = (p.1, p.0.narrow, omega (arith, in_room), omega (arith, in_room, p.0.payload-last));
      table_right = plane-table _ c.args.m _ _ p.1 c.requires.plane_passes _ _ at;
      rows_fit = p.3;
    }

pub returns-in-Some : goal.returns-in-Some
returns-in-Some c =
    let at = sym c.in-Some.is ∙ c.plane_in.ensures in
    let read = c.read_rows in
    rows_read _ c.args.m _ _ c.requires.strip_readable.1 c.requires.plane_passes _ _ at _ _ read.result read.ensures

pub returns-in-None : goal.returns-in-None
returns-in-None c =
    let none = sym c.in-None.is ∙ c.plane_in.ensures in
    rows_zero _ c.args.m _ _ c.requires.strip_readable.1 c.requires.plane_passes none _ c.fill.ensures.filled
