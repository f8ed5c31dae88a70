use Rattle.std.proofs.Common.{le-leb}
use borrow.Author.Tests.{lt-leb}
use Rattle.compare.proofs.planes.declared_in.Goals as goal

-- `compare::planes::declared_in` meets its contract. Assumes nothing.

pub returns-then-p-r : goal.returns-then-p-r
returns-then-p-r c = rw (le-leb _ _ c.if-p-r.true) c.plane_in.ensures

pub returns-else-p-r : goal.returns-else-p-r
returns-else-p-r c = rw (lt-leb _ _ c.if-p-r.false)
