use Rattle.std.proofs.Common.{arith}
use Rattle.table.proofs.test_pair.Goals as goal

pub test_rows-requires : goal.test_rows-requires
test_rows-requires c =
    let p = c.requires.strips_in_block in record {
      strip_in_block = (p.0, omega (arith, p.1), p.2, p.3, p.4);
      table_right = rw c.if-mask.true at c.requires.table_right;
    }

pub test_rows-requires-then-mask : goal.test_rows-requires-then-mask
test_rows-requires-then-mask c =
    let p = c.requires.strips_in_block in record {
      strip_in_block = (p.0, p.1, p.2, p.3, p.4);
      table_right = rw c.if-mask.true at c.requires.table_right;
    }

pub test_pictures-requires : goal.test_pictures-requires
test_pictures-requires c = record {
  strips_in_block = c.requires.strips_in_block;
  table_right = rw c.if-mask.false at c.requires.table_right;
}

pub returns-else-mask : goal.returns-else-mask
returns-else-mask c = rw c.if-mask.false c.test_pictures.ensures
