-- Laws of an image's test: what passes it.
use Rattle.std.proofs.Common.{◌≡◌, List, false, ℕ, ◌+◌, ◌/◌, ◌≤◌, arith, Option, Some, None, Ok}
use Rattle.block.specs.Tag.{tag-SMAP}
use Rattle.block.specs.Tree.{find_tag}
use Rattle.table.specs.Test.{block_test}
use Rattle.room.specs.Picture.{plane_test, smap_and_planes_test}
use Rattle.room.proofs.PictureLaws.{smap-passes, plane-passes}
use Rattle.image.specs.Image.{image_width, image_height, state_block}
use Rattle.image.specs.Fault.{smap_test, image_test, image_fault}

-- the fault of an object's image, from where its state's block stands
pub fault_at : (planes : ℕ) (s : List ℕ) (o st b z : ℕ) → Some (b, z) ≡ state_block s o st
    → image_test planes (image_width s o / 8) (image_height s o) s (b + 8) z ≡ image_fault planes s o st
unfolding image_fault
fault_at planes s o st b z at = rw (← at)

-- of an image that passes: its SMAP passes, and so does each of its planes
module _ (planes n h : ℕ) (s : List ℕ) (b z : ℕ) (passed : image_test planes n h s b z ≡ Ok tt) where
  module _ (smap end : ℕ) (at : Some (smap, end) ≡ find_tag tag-SMAP s b z) where
    picture-passes : smap_and_planes_test planes n h s b z smap end ≡ Ok tt
    unfolding image_test
    picture-passes = rw (← at) at passed

    pub image_smap-passes : block_test false n h s smap end ≡ Ok tt
    image_smap-passes = smap-passes planes n h s b z smap end picture-passes

    pub image_plane-passes : (k : ℕ) → 1 ≤ k → k ≤ planes → plane_test n h s b z k ≡ Ok tt
    image_plane-passes = plane-passes planes n h s b z smap end picture-passes

  -- and it has an SMAP
  there : (f : Option (ℕ × ℕ)) → smap_test planes n h s b z f ≡ Ok tt → f ≡ None → ⊥
  there (Some (smap, end)) p e = let q : ◌≡◌ {A = ℕ} 0 1 = cc in omega arith
  there None p e = let q : ◌≡◌ {A = ℕ} 0 1 = cc in omega arith

  pub image_has_smap : find_tag tag-SMAP s b z ≡ None → ⊥
  unfolding image_test
  image_has_smap = there (find_tag tag-SMAP s b z) passed
