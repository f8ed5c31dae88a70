use Rattle.std.proofs.Common.{◌-◌, ◌*◌, ◌≡◌}
use Rattle.load.proofs.LoadLaws.{row_of}
use Rattle.room.specs.Test.{strips}
use Rattle.grid.specs.Grid.{upd, boxed}
use Rattle.load.proofs.load_masks.Given as goal

abbrev pub invariant-loop-k : goal.invariant-loop-k
invariant-loop-k l = l.masks ≡ upd (boxed (strips l.r) 0 0 (strips l.r) ((l.k - 1) * l.r.height) (row_of l.room l.r)) l.initial.masks
