use Rattle.std.proofs.Common.{◌≡◌, arith, sym, ◌∙◌}
use Rattle.objects.proofs.NameLaws.{nul_end, nul_here, nul_on}
use Rattle.objects.proofs.name.nul_from.Goals as goal

pub returns-then-s-i-eq0 : goal.returns-then-s-i-eq0
returns-then-s-i-eq0 c = nul_here _ _ _ c.loop-i-test.true c.if-s-i-eq0.true ∙ c.loop-i.invariant

pub loop-i-preserved : goal.loop-i-preserved
loop-i-preserved c = nul_on _ _ _ c.loop-i-test.true c.if-s-i-eq0.false ∙ c.loop-i.invariant

pub returns : goal.returns
returns c =
    let done : c.loop-i.i ≡ c.args.z = omega arith in
    sym done ∙ nul_end _ _ _ (omega arith) ∙ c.loop-i.invariant
