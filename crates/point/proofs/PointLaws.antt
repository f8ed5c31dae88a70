-- Laws of the lowest number that passes a test.
use Rattle.std.proofs.Common.{ℕ, zero, suc, ◌+◌, ◌-◌, ◌≤◌, ◌<◌, ◌≡◌, refl, sym, ◌∙◌, Bool, true, false, cond, add-one, arith}
use Rattle.point.specs.Point.{lowest}

module _ (f : ℕ → Bool) where
  lowest-next : (from n : ℕ) → (n ≡ 0 → ⊥) → lowest f from n ≡ cond (f from) from (lowest f (suc from) (n - 1))
  unfolding lowest
  lowest-next from zero h = absurd (h refl)
  lowest-next from (suc n) h = let e : suc n - 1 ≡ n = omega arith in rw e

  module _ (count o : ℕ) (le : o ≤ count) (inv : lowest f 1 count ≡ lowest f o (suc count - o)) where
    here : lowest f 1 count ≡ cond (f o) o (lowest f (suc o) (suc count - o - 1))
    here = inv ∙ lowest-next o (suc count - o) (λ e. omega arith)

    pub lowest-hit : (b : Bool) → b ≡ f o → b ≡ true → o ≡ lowest f 1 count
    lowest-hit b e t = sym (here ∙ rw (← e, t))

    pub lowest_miss : (b : Bool) → b ≡ f o → b ≡ false → lowest f 1 count ≡ lowest f (o + 1) (suc count - (o + 1))
    lowest_miss b e t =
        let k : suc count - o - 1 ≡ suc count - (o + 1) = omega arith in
        here ∙ rw (← e, t, k, add-one o)

  pub lowest-none : (count o : ℕ) → count < o → lowest f 1 count ≡ lowest f o (suc count - o) → 0 ≡ lowest f 1 count
  unfolding lowest
  lowest-none count o h inv = let e : suc count - o ≡ 0 = omega arith in sym (inv ∙ rw e)
