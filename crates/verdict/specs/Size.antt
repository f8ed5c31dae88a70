-- The sizes of a room as its session asks for them.
-- For the proofs: no public promise rests on what this page says.
use Rattle.room.specs.Test.{strips}
use Rattle.room.specs.declared.Room.{Room}
use Rattle.replay.specs.declared.Size.{Size}

abbrev pub size_of : Room → Size
size_of r = record { strips = strips r; height = r.height; count = r.objects }
