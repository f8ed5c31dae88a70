use Rattle.compare.proofs.PlaceLaws.{place_put}
use Rattle.compare.proofs.places.put_place.Goals as goal

-- `compare::places::put_place` meets its contract. Assumes nothing.

pub returns : goal.returns
returns c =
    let put_four = c.put_four in
    place_put _ _ _ _ _ _ _ c.wide_u32.ensures.0 c.put_le16.ensures c.put_le16-2.ensures put_four.ensures
