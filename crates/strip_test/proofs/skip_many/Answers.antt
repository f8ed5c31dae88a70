use Rattle.std.proofs.Common.{arith, subst, ℕ}
use Rattle.strip_test.proofs.SkipLaws.{kept_went, went_on}
use Rattle.bits.specs.Reader.{Hands}
use Rattle.strip_test.proofs.skip_many.Goals as goal

pub returns-then-many-eq0 : goal.returns-then-many-eq0
returns-then-many-eq0 c =
    let a = c.args in
    let many = c.take-many in
    let zeros = subst (λ (v : ℕ). Hands 32 v a.st.cur many.result.next) c.if-many-eq0.true many.ensures in
    rw c.kept.ensures (
      omega arith,
      omega arith,
      zeros.held,
      λ second s rows. kept_went second a.w s a.st 32 many.result.next zeros,
    )

pub returns : goal.returns
returns c =
    let a = c.args in
    let f = c.skip-one.ensures in
    let g = c.skip-two.ensures in
    let h = c.skip.ensures in (
      omega (arith, f.2, g.2, h.2),
      omega (arith, f.3, g.3, h.3),
      λ s held. h.4 s (g.4 s (f.4 s held)),
      λ second s rows.
          went_on second a.w s a.st _ _ f.2 (omega (arith, g.2, h.2)) (f.5 second s rows)
          (went_on second a.w s _ _ _ g.2 h.2 (g.5 second s rows) (h.5 second s rows)),
    )
