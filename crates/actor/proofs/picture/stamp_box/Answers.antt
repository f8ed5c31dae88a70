use Rattle.std.proofs.Common.{◌≡◌, arith}
use Rattle.grid.proofs.Box.{row_room, box_none, box_more}
use Rattle.actor.specs.Stamp.{stamp_box}
use Rattle.actor.proofs.picture.stamp_box.Goals as goal

-- `actor::picture::stamp_box` meets its contract. Assumes nothing.

pub loop-r-init : goal.loop-r-init
loop-r-init c = box_none _ _ _ _ _ _

pub stamp_row-requires-clause-in_row : goal.stamp_row-requires-clause-in_row
stamp_row-requires-clause-in_row c =
    let there = row_room _ _ _ _ _ _ _ _ c.requires.in_frame c.loop-r-test.true in
    let here = row_room _ _ _ _ _ _ _ _ c.requires.in_picture c.loop-r-test.true in
    (omega arith, omega (arith, there), omega (arith, here))

pub loop-r-preserved : goal.loop-r-preserved
unfolding stamp_box
loop-r-preserved c = box_more _ _ _ _ _ _ _ _ _ c.loop-r.invariant c.stamp_row.ensures

pub returns : goal.returns
returns c =
    let all : c.loop-r.r ≡ c.args.down.count = omega arith in
    rw all at c.loop-r.invariant
