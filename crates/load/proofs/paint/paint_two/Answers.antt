use Rattle.std.proofs.Common.{◌+◌, ◌*◌, arith}
use Rattle.table.specs.Body.{pixel_at}
use Rattle.load.proofs.CellLaws.{read_pixel}
use Rattle.load.proofs.PairLaws.{strip_shows}
use Rattle.load.proofs.paint.paint_two.Goals as goal

-- `load::paint::paint_two` meets its contract. Assumes nothing.

pub returns : goal.returns
returns c =
    let a = c.args in
    let s = a.room.now in
    let passed = c.requires.strips_pass in
    c.blit_two.ensures (λ x r. pixel_at a.n a.h s a.b a.z (8 * a.k + x) r)
    (strip_shows a.n a.h s a.b a.z a.k a.k 0 c.read_strip.new.out (omega arith)
    (read_pixel a.n a.h s a.b a.z a.k _ _ _ passed.0 c.read_strip.ensures))
    (strip_shows a.n a.h s a.b a.z a.k (a.k + 1) 8 c.read_strip-2.new.out (omega arith)
    (read_pixel a.n a.h s a.b a.z (a.k + 1) _ _ _ passed.1 c.read_strip-2.ensures))
