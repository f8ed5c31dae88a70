use Rattle.std.proofs.Common.{refl}
use Rattle.block_writer.specs.Call.{sizes_allowed}
use Rattle.block_writer.proofs.sizes_allowed.Goals as goal

pub returns : goal.returns
unfolding sizes_allowed
returns c = refl
