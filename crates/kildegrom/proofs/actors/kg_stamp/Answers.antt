use Rattle.std.proofs.Common.{w32}
use mir.ValLaws.{to_z-of_z}
use Rattle.kildegrom.proofs.actors.kg_stamp.Goals as goal

-- The corner that the callee gets is the one that was given.

pub returns-clause-frame_after : goal.returns-clause-frame_after
returns-clause-frame_after c =
    let a = c.args in
    let fits = c.ranges in
    rw (to_z-of_z w32 a.x fits.x, to_z-of_z w32 a.y fits.y) at c.stamp.ensures.frame_after
