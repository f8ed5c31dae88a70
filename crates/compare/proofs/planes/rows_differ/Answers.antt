use Rattle.std.proofs.Common.{ap, ◌∙◌, not, ℕ, eqb}
use Rattle.compare.proofs.CountLaws.{differing-same}
use Rattle.compare.proofs.planes.rows_differ.Goals as goal

-- `compare::planes::rows_differ` meets its contract. Assumes nothing.

pub returns : goal.returns
returns c =
    let right = c.found_rows-2 in
    let left = c.found_rows in
    ap (λ (x : ℕ). not (eqb x 0)) (c.unequal.ensures.count ∙ differing-same _ _ _ _ _ left.ensures right.ensures)
