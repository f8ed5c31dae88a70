use Rattle.std.proofs.Common.{w32, inl, inr}
use Rattle.actor.proofs.StampLaws.{stamp_made}
use Rattle.grid.proofs.Box.{box_empty}
use mir.ValLaws.{to_z-of_z}
use Rattle.actor.proofs.picture.stamp_picture.Goals.{then-across-eq0-via-then-across-eq0, then-across-eq0-via-else-across-eq0+then-down-eq0}
use Rattle.actor.proofs.picture.stamp_picture.Goals as goal

-- `actor::picture::stamp_picture` meets its contract. Assumes nothing.

pub returns-then-across-eq0 : goal.returns-then-across-eq0
returns-then-across-eq0 c =
    let across = rw (to_z-of_z w32 c.args.x c.ranges.x) at c.span_of-across.ensures in
    let down = rw (to_z-of_z w32 c.args.y c.ranges.y) at c.span_of-down.ensures in
    stamp_made _ _ _ _ _ _ _ _ _ _ _ _ _ c.requires.0 across down _ _ (box_empty _ _ _ _ _ _ _ (elim c.then-across-eq0.branch [
      | then-across-eq0-via-then-across-eq0 w ↦ inl w.if-across-eq0.true
      | then-across-eq0-via-else-across-eq0+then-down-eq0 w ↦ inr w.if-down-eq0.true
    ]))

pub returns : goal.returns
returns c =
    let across = rw (to_z-of_z w32 c.args.x c.ranges.x) at c.span_of-across.ensures in
    let down = rw (to_z-of_z w32 c.args.y c.ranges.y) at c.span_of-down.ensures in
    stamp_made _ _ _ _ _ _ _ _ _ _ _ _ _ c.requires.0 across down _ _ c.stamp_box.ensures
