use Rattle.std.proofs.Common.{◌≡◌, refl, ◌+◌, ◌*◌, ◌-◌, arith}
use Rattle.grid.proofs.Box.{box_thin, box_beside}
use Rattle.table.specs.Body.{pixel_at}
use Rattle.table.proofs.BlockLaws.{block-table, block-strip}
use Rattle.load.proofs.paint.paint_background.Goals as goal

-- `load::paint::paint_background` meets its contract. Assumes nothing.

pub loop-pair-init : goal.loop-pair-init
loop-pair-init c = box_thin _ _ _ _ _ _

pub paint_two-requires : goal.paint_two-requires
paint_two-requires c =
    let passed = c.requires.block_passes in record {
      strips_in_block = (omega arith, omega arith, omega arith, omega arith, omega arith);
      table_right = block-table _ _ _ _ _ _ passed;
      strips_pass = (block-strip _ _ _ _ _ _ passed _ (omega arith), block-strip _ _ _ _ _ _ passed _ (omega arith));
      buffers_fit = (omega arith, omega arith, omega arith);
    }

pub loop-pair-preserved : goal.loop-pair-preserved
loop-pair-preserved c =
    let a = c.args in
    let pair = c.loop-pair.pair in
    let at : 16 * pair ≡ 8 * (2 * pair) = omega arith in
    let wider : 8 * (2 * pair) + 16 ≡ 16 * (pair + 1) = omega arith in
    rw wider at
    (box_beside _ 0 (8 * (2 * pair)) 0 _ _ _ (λ x y o. pixel_at a.n a.h a.room.now a.b a.z x y) _ _ _ _ (omega arith)
    (λ x y o lx ly. refl)
    (rw at at c.loop-pair.invariant)
    c.paint_two.ensures)

pub paint_strip-requires : goal.paint_strip-requires
paint_strip-requires c =
    let passed = c.requires.block_passes in record {
      strip_in_block = (omega arith, omega arith, omega arith, omega arith, omega arith);
      table_right = block-table _ _ _ _ _ _ passed;
      strip_passes = block-strip _ _ _ _ _ _ passed _ (omega arith);
      pixels_fit = omega arith;
    }

pub returns-then-n-eq1 : goal.returns-then-n-eq1
returns-then-n-eq1 c =
    let a = c.args in
    let done : 16 * c.loop-pair.pair ≡ 8 * (a.n - 1) = omega arith in
    let all : 8 * (a.n - 1) + 8 ≡ 8 * a.n = omega arith in
    rw all at
    (box_beside _ 0 (8 * (a.n - 1)) 0 _ _ _ (λ x y o. pixel_at a.n a.h a.room.now a.b a.z x y) _ _ _ _ (omega arith)
    (λ x y o lx ly. refl)
    (rw done at c.loop-pair.invariant)
    c.paint_strip.ensures)

pub returns-else-n-eq1 : goal.returns-else-n-eq1
returns-else-n-eq1 c =
    let all : 16 * c.loop-pair.pair ≡ 8 * c.args.n = omega arith in
    rw all at c.loop-pair.invariant
