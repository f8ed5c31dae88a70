use Rattle.block.specs.Tag.{container}
use Rattle.block.proofs.is_container.Goals as goal

pub returns : goal.returns
unfolding container
returns c = cc
