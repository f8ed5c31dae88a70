use Rattle.std.proofs.Common.{ℕ, ap}
use Rattle.load.proofs.BoxLaws.{box_same}
use Rattle.grid.specs.Mask.{mask_over}
use Rattle.repaint.proofs.picture.put_plane.Goals as goal

-- `repaint::picture::put_plane` meets its contract. Assumes nothing.

pub returns : goal.returns
returns c =
    let read = c.plane_rows.ensures in
    box_same _ _ _ _ _ _ _ _ _ (λ x q o lx lq. ap (λ (v : ℕ). mask_over c.args.replace v o) (read q lq)) c.put_rows.ensures
