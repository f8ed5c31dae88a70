use Rattle.std.proofs.Common.{arith, drop, sym, ap, ◌∙◌}
use Rattle.plane.proofs.MaskLaws.{rows_done}
use Rattle.plane.specs.Mask.{literals}
use Rattle.strip.specs.Strip.{made_of}
use Rattle.plane.proofs.test_rows.Goals as goal

pub returns : goal.returns
returns c =
    let l = c.loop-left in
    sym (l.invariant.1 ∙ ap made_of (rows_done (drop l.at c.args.body.now) l.left (literals 0) (omega arith)))
