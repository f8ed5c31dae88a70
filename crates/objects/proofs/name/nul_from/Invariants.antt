use Rattle.std.proofs.Common.{◌≡◌, ◌-◌}
use Rattle.objects.specs.Name.{nul_from}
use Rattle.objects.proofs.name.nul_from.Given as goal

abbrev pub invariant-loop-i : goal.invariant-loop-i
invariant-loop-i l = nul_from (l.z - l.i) l.s l.i ≡ nul_from (l.z - l.p) l.s l.p
