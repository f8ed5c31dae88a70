use Rattle.std.proofs.Common.{◌≡◌}
use Rattle.grid.specs.Grid.{upd, boxed}
use Rattle.actor.specs.Stamp.{stamp_box}
use Rattle.actor.proofs.picture.stamp_box.Given as goal

abbrev pub invariant-loop-r : goal.invariant-loop-r
invariant-loop-r l =
    let m = l.masks in
    let p = l.picture in
    l.frame ≡ upd (boxed m.w l.across.start l.down.start l.across.count l.r
    (stamp_box m.bytes.now p.pixels.now m.w m.h m.n p.width p.clear l.clip l.across l.down)) l.initial.frame
