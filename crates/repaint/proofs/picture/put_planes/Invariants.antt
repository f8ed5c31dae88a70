use Rattle.std.proofs.Common.{◌≡◌, ◌-◌, ◌*◌, ◌%◌}
use Rattle.layers.specs.Source.{rows_byte}
use Rattle.layers.specs.Layer.{strip_byte}
use Rattle.room.specs.Test.{strips}
use Rattle.grid.specs.Grid.{upd}
use Rattle.repaint.proofs.picture.put_planes.Given as goal

abbrev pub invariant-loop-p : goal.invariant-loop-p
invariant-loop-p l =
    l.masks ≡ upd (strip_byte ((l.p - 1) * l.r.height * strips l.r) (λ i. i % strips l.r) l.k
    (rows_byte l.room l.m l.j (strips l.r) l.r.height l.k l.y l.replace)) l.initial.masks
