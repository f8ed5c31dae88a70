use Rattle.std.proofs.Common.{◌≤◌, subst, arith, Result, ℕ}
use Rattle.compare.specs.Compare.{value}
use Rattle.compare.proofs.OutcomeLaws.{value-few}
use Rattle.kildegrom.proofs.comparisons.kg_compare.Goals as goal

-- A list has few places, so their count fits the word. Assumes nothing.

pub map-requires : goal.map-requires
map-requires c x e i s =
    let few : x ≤ 128 = subst (λ (r : Result ℕ ℕ). value r ≤ 128) e (value-few _ _ _ c.compare.result c.compare.ensures.answer) in
    omega arith
