use Rattle.std.proofs.Common.{◌≡◌, refl, ◌+◌, ◌-◌, ◌*◌, ◌/◌, ◌%◌, arith}
use Rattle.actor.proofs.MaskLaws.{window_cell}
use Rattle.cells.proofs.RowLaws.{row_beside}
use Rattle.actor.proofs.row.masked_row.Goals as goal

-- `actor::row::masked_row` meets its contract. Assumes nothing.

pub returns-then-done-count : goal.returns-then-done-count
returns-then-done-count c =
    let few = c.few in let window = c.window-bits in
    let eights = c.eights in
    let a = c.args in
    let done = 8 * (a.count / 8) in
    let left = a.x + done in
    let last = a.line + (a.x + a.count - 1) / 8 in
    let cells =
    window_cell a.masks.now a.picture.now a.line a.x a.from done (a.count - done) a.clear window.result (a.line + left / 8) last
    (left % 8) refl (omega arith) refl (omega arith) window.ensures.from_first_byte window.ensures.from_second_byte in
    let whole : done + (a.count - done) ≡ a.count = omega arith in
    rw whole at (row_beside _ _ _ _ _ _ _ _ _ _ _ refl cells eights.ensures few.ensures)

pub returns-else-done-count : goal.returns-else-done-count
returns-else-done-count c =
    let a = c.args in
    let all : 8 * (a.count / 8) ≡ a.count = omega arith in
    rw all at c.eights.ensures
