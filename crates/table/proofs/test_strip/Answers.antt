use Rattle.table.proofs.test_strip.Goals as goal

pub test_rows-requires : goal.test_rows-requires
test_rows-requires c = record {
  strip_in_block = c.requires.strip_in_block;
  table_right = rw c.if-mask.true at c.requires.table_right;
}

pub test_picture-requires : goal.test_picture-requires
test_picture-requires c = record {
  strip_in_block = c.requires.strip_in_block;
  table_right = rw c.if-mask.false at c.requires.table_right;
}

pub returns-then-mask : goal.returns-then-mask
returns-then-mask c = rw c.if-mask.true c.test_rows.ensures

pub returns-else-mask : goal.returns-else-mask
returns-else-mask c = rw c.if-mask.false c.test_picture.ensures
