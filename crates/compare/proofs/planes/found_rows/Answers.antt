use Rattle.std.proofs.Common.{subst}
use Rattle.load.proofs.CellLaws.{zero_rows}
use Rattle.compare.specs.Tables.{Sure}
use Rattle.compare.proofs.TableLaws.{rows_table, rows_read}
use Rattle.compare.proofs.planes.found_rows.Goals as goal

-- `compare::planes::found_rows` meets its contract. Assumes nothing.

pub read_rows-requires : goal.read_rows-requires
read_rows-requires c =
    let sure = subst (Sure _ _ _) c.in-Some.is c.requires.0 in record {
      strip_in_block = (c.requires.1, c.requires.2, sure.lies.0, sure.lies.1);
      table_right = rows_table _ _ _ _ _ c.args.k sure;
      rows_fit = c.requires.4;
    }

pub returns-in-Some : goal.returns-in-Some
returns-in-Some c =
    let at = c.in-Some.is in
    let read = c.read_rows in
    λ y lt. rw at (rows_read _ _ _ _ _ _ (subst (Sure _ _ _) at c.requires.0) c.requires.1 _ _ read.result read.ensures y lt)

pub returns-in-None : goal.returns-in-None
returns-in-None c =
    λ y lt. rw c.in-None.is (zero_rows c.args.h _ c.fill.ensures.filled y lt)
