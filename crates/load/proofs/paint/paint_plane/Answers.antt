use Rattle.std.proofs.Common.{◌≡◌, ap, false, ℕ, arith}
use lib.Bits.{bit_or}
use Rattle.grid.specs.Mask.{mask_over}
use Rattle.grid.proofs.Box.{box_thin, box_beside}
use Rattle.table.specs.Body.{mask_at}
use Rattle.table.proofs.BlockLaws.{block-table, block-strip}
use Rattle.load.proofs.JoinLaws.{joined_clear}
use Rattle.load.proofs.paint.paint_plane.Goals as goal

-- `load::paint::paint_plane` meets its contract. Assumes nothing.

pub loop-s-init : goal.loop-s-init
loop-s-init c = box_thin _ _ _ _ _ _

pub join_strip-requires : goal.join_strip-requires
join_strip-requires c =
    let passed = c.requires.block_passes in record {
      strip_in_block = (omega arith, omega arith, omega arith, omega arith, omega arith);
      table_right = block-table _ _ _ _ _ _ passed;
      strip_passes = block-strip _ _ _ _ _ _ passed _ c.loop-s-test.true;
      masks_fit = (omega arith, omega arith, omega arith, omega arith);
    }

pub loop-s-preserved : goal.loop-s-preserved
loop-s-preserved c =
    let a = c.args in
    let l = c.loop-s in
    box_beside _ 0 l.s _ _ _ _ (λ t y o. mask_over false (mask_at a.n a.h a.room.now a.b a.z t y) o)
    (λ x y o. mask_over false (mask_at a.n a.h a.room.now a.b a.z l.s y) o) _ _ _ (omega arith)
    (λ x y o lx ly. ap (λ (t : ℕ). bit_or o (mask_at a.n a.h a.room.now a.b a.z t y)) (omega arith))
    l.invariant
    c.join_strip.ensures

pub returns : goal.returns
returns c =
    let a = c.args in
    let l = c.loop-s in
    let all : l.s ≡ a.n = omega arith in
    joined_clear _ _ _ _ _ (λ t y. mask_at a.n a.h a.room.now a.b a.z t y) _ _ _ c.clear_plane.ensures
    (rw all at l.invariant)
