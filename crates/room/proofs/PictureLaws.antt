-- Laws of a picture's test: where it passes, its SMAP does, and each of its planes.
use Rattle.std.proofs.Common.{◌≡◌, List, true, false, ℕ, ◌≤◌, arith, Some, Ok}
use Rattle.table.specs.Test.{leftmost, block_test}
use Rattle.table.proofs.BlockLaws.{both_pass, leftmost-each}
use Rattle.room.specs.Picture.{plane_in, plane_test, smap_and_planes_test}

module _ (planes n h : ℕ) (s : List ℕ) (b z smap end : ℕ) (passed : smap_and_planes_test planes n h s b z smap end ≡ Ok tt) where
  both : (block_test false n h s smap end ≡ Ok tt) × (leftmost (plane_test n h s b z) 1 planes ≡ Ok tt)
  unfolding smap_and_planes_test
  both = both_pass (block_test false n h s smap end) (leftmost (plane_test n h s b z) 1 planes) passed

  pub smap-passes : block_test false n h s smap end ≡ Ok tt
  smap-passes = both.0

  pub plane-passes : (k : ℕ) → 1 ≤ k → k ≤ planes → plane_test n h s b z k ≡ Ok tt
  plane-passes k one le = leftmost-each (plane_test n h s b z) planes 1 both.1 k one (omega arith)

-- the test of a plane that is there
pub found-passes : (n h : ℕ) (s : List ℕ) (b z k plane end : ℕ) → Some (plane, end) ≡ plane_in s b z k → plane_test n h s b z k ≡ Ok tt
    → block_test true n h s plane end ≡ Ok tt
unfolding plane_test
found-passes n h s b z k plane end at passed = rw (← at) at passed
