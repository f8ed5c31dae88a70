use Rattle.table.specs.Body.{strip_at}
use Rattle.table.proofs.read_strip.Goals as goal

pub returns : goal.returns
unfolding strip_at
returns c = rw (← c.strip_body.ensures) c.decode_strip.ensures
