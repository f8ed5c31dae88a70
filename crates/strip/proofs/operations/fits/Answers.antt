use Rattle.std.proofs.Common.{◌≡◌, false, sym, ◌∙◌, arith, leb-true, true≢false, rules}
use Rattle.strip.proofs.operations.fits.Goals as goal
use Rattle.strip.proofs.operations.fits.Goals.{then-holds, else-holds}

pub run_at-requires : goal.run_at-requires
run_at-requires c =
    let pre = c.requires in
    (omega (arith, c.holds.ensures.0 c.if-holds.true, pre.0), pre.1)

pub returns-then-not-run_at : goal.returns-then-not-run_at
returns-then-not-run_at c = λ e.
    elim c.if-holds.branch [
      | then-holds w ↦
          let none : w.run_at.result ≡ false = search rules in
          record { none = λ s. sym (w.run_at.ensures s) ∙ none; enough = c.holds.ensures.0 w.if-holds.true; room = leb-true _ _ e }
      | else-holds w ↦ absurd (true≢false (sym c.if-not-run_at.true ∙ w.value-is ∙ w.if-holds.false))
    ]
