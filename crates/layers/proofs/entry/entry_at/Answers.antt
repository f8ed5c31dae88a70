use Rattle.std.proofs.Common.{refl}
use Rattle.layers.specs.Decoded.{entry_at}
use Rattle.layers.proofs.entry.entry_at.Goals as goal

-- `layers::entry::entry_at` meets its contract. Assumes nothing.

pub returns : goal.returns
unfolding entry_at
returns c = refl
