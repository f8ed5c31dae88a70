-- The text is as long as any listing.
use Rattle.list_room.proofs.Front.{front}
use Rattle.list_room.proofs.put_listing.Goals as goal

pub returns-in-Some-clause-front : goal.returns-in-Some-clause-front
returns-in-Some-clause-front c = rw c.in-Some.is (front _ _ _ _ c.requires.text c.list.ensures.count c.list.ensures.text_after)

pub returns-in-None-clause-front : goal.returns-in-None-clause-front
returns-in-None-clause-front c = rw c.in-None.is (front _ _ _ _ c.requires.text c.refused.ensures.count c.refused.ensures.text_after)
