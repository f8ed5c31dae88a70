use Rattle.actor.proofs.SizeLaws.{stamp_accepted}
use Rattle.refusal.proofs.AnswerLaws.{accepted}
use Rattle.actor.proofs.stamp.Goals as goal

-- `actor::stamp` meets its contract. Assumes nothing.

pub invariant_of-masks : goal.invariant_of-masks
invariant_of-masks c =
    let p = (stamp_accepted _ _ _ _ _ _ _ _ (accepted _ c.in_ok-check_stamp.ensures)).planes in
    record { wide = p.wide; whole = p.whole; high = p.high; few = p.few; room = p.room }

pub invariant_of-picture : goal.invariant_of-picture
invariant_of-picture c =
    let b = stamp_accepted _ _ _ _ _ _ _ _ (accepted _ c.in_ok-check_stamp.ensures) in
    record { narrow = b.narrow; short = b.short; all = b.all }

pub stamp_picture-requires : goal.stamp_picture-requires
stamp_picture-requires c = let b = stamp_accepted _ _ _ _ _ _ _ _ (accepted _ c.in_ok-check_stamp.ensures) in (b.some, b.room)
