use Rattle.std.proofs.Common.{◌&&◌, sym, ap}
use Rattle.strip.specs.Place.{is_run}
use Rattle.strip.proofs.operations.run_at.Goals as goal

pub returns : goal.returns
returns c = λ s. ap (λ p. c.args.second && is_run p) (sym (c.take.ensures.front s))
