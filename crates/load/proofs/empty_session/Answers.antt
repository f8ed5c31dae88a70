use Rattle.stored.proofs.BytesLaws.{emptied_of}
use Rattle.load.proofs.empty_session.Goals as goal

-- `load::empty_session` meets its contract. Assumes nothing.

pub returns : goal.returns
returns c = emptied_of _ _ c.fill.ensures.filled c.fill.ensures.rest_stays
