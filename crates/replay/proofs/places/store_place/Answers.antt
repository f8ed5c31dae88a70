use Rattle.replay.proofs.PlacesLaws.{stored_place}
use Rattle.replay.proofs.places.store_place.Goals as goal

-- `replay::places::store_place` meets its contract. Assumes nothing.

pub returns : goal.returns
returns c =
    let A = c.args in
    λ p a. stored_place A.places.now A.object c.from.result A.at p c.requires.1 c.requires.0 c.from.ensures a
