use Rattle.std.proofs.Common.{arith}
use Rattle.std.proofs.lemmas.Grind.{common_steps}
use Rattle.scene.specs.Steps.{allowed, aligned, sized, inside}
use Rattle.replay.specs.Tables.{room_of_tables}
use Rattle.replay.proofs.tables.Objects.fits.Goals as goal

-- `replay::tables::Objects::fits` meets its contract. Assumes nothing.

pub returns-then-at-w : goal.returns-then-at-w
unfolding allowed aligned sized inside room_of_tables
returns-then-at-w c = λ v s. grind (arith, common_steps)

pub returns-else-at-w : goal.returns-else-at-w
unfolding allowed aligned sized inside room_of_tables
returns-else-at-w c = λ v s. grind (arith, common_steps)
