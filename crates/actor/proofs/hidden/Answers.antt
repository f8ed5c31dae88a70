use Rattle.actor.proofs.SizeLaws.{hidden_accepted}
use Rattle.refusal.proofs.AnswerLaws.{accepted}
use Rattle.actor.proofs.hidden.Goals as goal

-- `actor::hidden` meets its contract. Assumes nothing.

pub invariant_of-masks : goal.invariant_of-masks
invariant_of-masks c =
    let p = (hidden_accepted _ _ _ _ _ _ (accepted _ c.in_ok-check_hidden.ensures)).0 in
    record { wide = p.wide; whole = p.whole; high = p.high; few = p.few; room = p.room }

pub hide-requires : goal.hide-requires
hide-requires c = (hidden_accepted _ _ _ _ _ _ (accepted _ c.in_ok-check_hidden.ensures)).1
