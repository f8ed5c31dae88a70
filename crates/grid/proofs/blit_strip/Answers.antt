use Rattle.std.proofs.Common.{◌≡◌, refl, ◌∙◌, ◌+◌, ◌*◌, ◌<◌, arith, length, length-set}
use Rattle.grid.proofs.Box.{spot, row-none, row_write, box_none, box_more}
use Rattle.grid.proofs.blit_strip.Goals as goal

-- `grid::blit_strip` meets its contract. Assumes nothing.

-- the last cell of the row that a turn writes is within the buffer
module _ (c : goal.In-loop-r) where
  abbrev start : goal.In-loop-r
  start = c

  cell : (c.args.y0 + c.loop-r.r) * c.args.w + (8 * c.args.s + 7) < length c.args.pixels.now
  cell = spot _ _ c.args.h _ _ 8 c.args.rows _ 7 c.requires.inside c.loop-r-test.true (omega arith)

pub loop-r-init : goal.loop-r-init
loop-r-init c = (box_none _ _ _ _ _ _, omega arith, refl)

pub loop-c-init : goal.loop-c-init
loop-c-init c = (row-none _ _ _ _ _, omega arith, refl, omega (arith, cell c), omega arith)

pub loop-c-preserved : goal.loop-c-preserved
loop-c-preserved c =
    let inv = c.loop-c.invariant in (
      row_write _ _ _ _ _ _ _ (omega arith) inv.0 _ _ (omega arith) c.pixel_over.ensures,
      omega arith,
      simp length-set inv.2,
      inv.3,
      inv.4,
    )

pub loop-r-preserved : goal.loop-r-preserved
loop-r-preserved c =
    let inv2 = c.loop-c.invariant in
    let inv = c.loop-r.invariant in
    let full : c.loop-c.c ≡ 8 = omega arith in
    (box_more _ _ _ _ _ _ _ _ _ inv.0 (rw full at inv2.0), omega arith, inv2.2 ∙ inv.2)
