-- The two rooms that the code compares.
-- For the proofs: no public promise rests on what this page says.
use Rattle.compare.specs.declared.pair.Pair.{Pair}
use Rattle.compare.specs.Compare.{Rooms, rooms}

abbrev pub rooms_of : Pair → Rooms
rooms_of p = rooms p.a.now p.ra p.b.now p.rb
