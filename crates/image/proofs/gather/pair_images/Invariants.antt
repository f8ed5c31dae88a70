use Rattle.std.proofs.Common.{◌-◌}
use Rattle.image.proofs.GatherLaws.{Pairing}
use Rattle.image.proofs.gather.pair_images.Given as goal

abbrev pub invariant-loop-b : goal.invariant-loop-b
invariant-loop-b l = Pairing l.room l.initial.table l.objects l.table l.at

abbrev pub decreases-loop-b : goal.decreases-loop-b
decreases-loop-b l = l.end - l.at
