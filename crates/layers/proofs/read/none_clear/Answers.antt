use Rattle.layers.proofs.EveryLaws.{clear_held, clear_shut}
use Rattle.layers.proofs.read.none_clear.Goals.{then-clear, else-clear}
use Rattle.layers.proofs.read.none_clear.Goals as goal

-- `layers::read::none_clear` meets its contract. Assumes nothing.

pub returns : goal.returns
returns c = elim c.if-clear.branch [
  | then-clear w ↦ rw (w.result-is, w.if-clear.true) (clear_held _ c.args.values.now _ c.requires _ w.contains.ensures.cases)
  | else-clear w ↦ rw (w.result-is, w.if-clear.false) (clear_shut _ c.args.values.now _ c.requires)
]
