use Rattle.std.proofs.Common.{not, eqb, arith, subst, ℕ}
use Rattle.decode.proofs.PaintLaws.{advances_kept, advances_on}
use Rattle.bits.specs.Reader.{Hands}
use Rattle.decode.proofs.groups.groups.Goals as goal

pub returns-then-many-eq0 : goal.returns-then-many-eq0
returns-then-many-eq0 g c =
    let painted = c.fill in let if1 = c.if-many-eq0 in let many = c.take-many in let a = c.args in
    let zeros = subst (λ (v : ℕ). Hands 32 v a.st.cur many.result.next) if1.true many.ensures in rw c.kept.ensures (record {
      moves_on = (λ s no_run. omega arith);
      advances = advances_kept (not (eqb g.row.SECOND 0)) a.w 32 32 a.st many.result.next a.out.now painted.new.out zeros (omega arith) painted.ensures.filled;
    })

pub returns : goal.returns
returns g c =
    let group3 = c.group in let group2 = c.group-b in let group = c.group-a in
    let a = c.args in
    let x = group.ensures in
    let y = group2.ensures in
    let z = group3.ensures in record {
      moves_on = (λ s no_run. omega (arith, x.2 s no_run, y.3.forward, z.3.forward));
      advances = advances_on (not (eqb g.row.SECOND 0)) a.w 9 23 32 a.st _ _ a.out.now _ _ (omega arith) x.3
          (advances_on (not (eqb g.row.SECOND 0)) a.w 9 9 23 _ _ _ _ _ _ (omega arith) y.3 z.3);
    }
