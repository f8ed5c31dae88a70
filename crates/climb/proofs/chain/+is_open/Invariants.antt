use Rattle.climb.proofs.chain.+is_open.Given as goal

abbrev pub decreases-is_open : goal.decreases-is_open
decreases-is_open l = l.links
