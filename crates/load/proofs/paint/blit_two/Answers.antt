use Rattle.std.proofs.Common.{◌≡◌, ◌∙◌, ◌+◌, ◌-◌, ◌*◌, arith, length, take, drop}
use Rattle.grid.proofs.Box.{box_none}
use Rattle.load.proofs.PairLaws.{row-part, row-long, row_of_both, row_inside}
use Rattle.load.proofs.paint.blit_two.Goals as goal

-- `load::paint::blit_two` meets its contract. Assumes nothing.

pub loop-r-init : goal.loop-r-init
loop-r-init c = λ f a b. box_none _ _ _ _ _ _

pub blit_strip-requires : goal.blit_strip-requires
blit_strip-requires c =
    let lr = c.loop-r-test.true in let loop = c.loop-r in
    let a = c.args in let pre = c.requires in record {
      inside = row_inside _ _ a.w a.h a.k a.k loop.r pre.0 loop.auto.pixels (omega arith) lr;
      rows_given = row-long a.h a.left.now loop.r lr pre.1;
    }

pub blit_strip-requires-in-loop-r : goal.blit_strip-requires-in-loop-r
blit_strip-requires-in-loop-r c =
    let one = c.blit_strip in
    let lr = c.loop-r-test.true in let loop = c.loop-r in let a = c.args in let pre = c.requires in record {
      inside = row_inside _ _ a.w a.h a.k (a.k + 1) loop.r pre.0 (one.auto.pixels ∙ loop.auto.pixels) (omega arith) lr;
      rows_given = row-long a.h a.right.now loop.r lr pre.2;
    }

pub loop-r-preserved : goal.loop-r-preserved
loop-r-preserved c =
    let two = c.blit_strip-in-loop-r in let one = c.blit_strip in let lr = c.loop-r-test.true in
    let loop = c.loop-r in
    let a = c.args in let pre = c.requires in
    λ f left right.
    row_of_both a.w a.k loop.r f (take (length a.left.now - 8 * loop.r) (drop (8 * loop.r) a.left.now))
    (take (length a.right.now - 8 * loop.r) (drop (8 * loop.r) a.right.now)) _ _ _ _
    (row-part 0 a.h a.left.now f left loop.r lr pre.1)
    (row-part 8 a.h a.right.now f right loop.r lr pre.2) (loop.invariant f left right) one.ensures two.ensures

pub returns : goal.returns
returns c = λ f left right.
    let all : c.loop-r.r ≡ c.args.h = omega arith in
    rw all at (c.loop-r.invariant f left right)
