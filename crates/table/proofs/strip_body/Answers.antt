use Rattle.std.proofs.Common.{arith}
use Rattle.table.proofs.BodyLaws.{body-in, cell_room}
use Rattle.table.proofs.TableLaws.{table-room}
use Rattle.table.specs.Body.{body_of}
use Rattle.table.proofs.strip_body.Goals as goal

pub offset_at-requires : goal.offset_at-requires
offset_at-requires c = (cell_room _ _ _ _ _ _ c.requires.table_right c.requires.strip_in_block.0 (omega arith) (omega arith), omega arith)

pub body_end-end-requires : goal.body_end-end-requires
body_end-end-requires c = (omega arith, omega arith, omega (arith, table-room _ _ _ _ _ c.requires.table_right), omega arith)

pub slice_bounds-result-count : goal.slice_bounds-result-count
slice_bounds-result-count c =
    let i = body-in _ _ _ _ _ _ c.requires.table_right c.requires.strip_in_block.0 c.requires.has_body in
    omega (arith, c.offset_at.ensures.0, c.body_end-end.ensures)

pub slice_bounds-result-start : goal.slice_bounds-result-start
slice_bounds-result-start c =
    let i = body-in _ _ _ _ _ _ c.requires.table_right c.requires.strip_in_block.0 c.requires.has_body in
    omega (arith, c.offset_at.ensures.0, c.body_end-end.ensures)

pub slice_bounds-result-end : goal.slice_bounds-result-end
slice_bounds-result-end c =
    let i = body-in _ _ _ _ _ _ c.requires.table_right c.requires.strip_in_block.0 c.requires.has_body in
    omega (arith, c.offset_at.ensures.0, c.body_end-end.ensures)

pub returns : goal.returns
unfolding body_of
returns c = rw (← c.offset_at.ensures.0, ← c.body_end-end.ensures)
