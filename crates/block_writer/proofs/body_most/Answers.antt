use Rattle.std.proofs.Common.{arith, sym, subst, Bool, ◌+◌, ◌*◌, ◌/◌, ◌≤◌, length}
use Rattle.block_writer.specs.Block.{body_for}
use Rattle.block_writer.proofs.BoundLaws.{pixels_body_few, rows_body-few}
use Rattle.block_writer.proofs.body_most.Goals as goal

pub returns-then-mask : goal.returns-then-mask
returns-then-mask c =
    let a = c.args in (
      λ n k src. subst (λ (m : Bool). length (body_for m n a.h src k) ≤ a.h + (a.h + 2) / 3) (sym c.if-mask.true) (rows_body-few n a.h src k),
      omega
          arith,
    )

pub returns : goal.returns
returns c =
    let a = c.args in (
      λ n k src. subst (λ (m : Bool). length (body_for m n a.h src k) ≤ 10 * a.h + 1) (sym c.if-mask.false)
          (pixels_body_few n a.h src k c.requires.0),
      omega arith,
    )
