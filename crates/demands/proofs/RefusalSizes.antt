-- When sizes are outside document 01's (refusal 3), there is no such object, image or state (11), and a place isn't allowed (12).
use Rattle.std.proofs.Common.{◌≡◌, false, ◌&&◌, List, ◌⊎◌, ◌↔◌, ℕ, ◌+◌, ◌*◌, ◌%◌, ◌<◌, leb, ltb, eqb}
use Rattle.block.specs.Tree.{is_at}
use Rattle.room.specs.Head.{sizes_right}
use Rattle.room.specs.declared.Room.{Room}
use Rattle.image.specs.Image.{object_count, image_block, image_count, state_block, is_object, state_right, drawable}
use Rattle.scene.specs.Painting as scene
use Rattle.scene.specs.declared.Entry.{Entry}
use Rattle.scene.specs.Steps.{allowed}
use Rattle.scene.proofs.Allowed.{allowed-row}
use Rattle.actor.specs.Sizes.{sizes_fit, picture_fits}
use Rattle.block_writer.specs.Call.{sizes_allowed}
use Rattle.demands.specs.RoomRefusals.{OutOfSizes, OutOfRange, OutOfPicture}
use Rattle.demands.specs.RoomRefusals.{NotDrawable, NotAllowed}
use Rattle.demands.specs.Refusals.{sizes_inside}
use Rattle.demands.proofs.RefusalTests.{◌then◌, or_fails, either_way, flat_sum, swapped, same, not-up_to, not-below, differs}
use Rattle.demands.proofs.RefusalNeeds.{is_missing}

pub out_of_sizes : (r : Room) → (sizes_inside r ≡ false) ↔ OutOfSizes r
unfolding sizes_right
out_of_sizes r =
    or_fails _ (leb r.objects 128)
    (or_fails _ (leb r.planes 4)
    (or_fails _ (leb r.height 200)
    (or_fails _ (leb 1 r.height)
    (or_fails _ (leb r.width 1024)
    (or_fails (eqb (r.width % 8) 0) (leb 8 r.width) (differs (r.width % 8) 0) (not-up_to 8 r.width))
    (not-up_to r.width 1024))
    (not-up_to 1 r.height))
    (not-up_to r.height 200))
    (not-up_to r.planes 4))
    (not-up_to r.objects 128)
    then flat_sum
    then flat_sum
    then flat_sum
    then flat_sum
    then flat_sum

-- the same tests on the sizes that other calls are given
pub sizes-fit : (w h n : ℕ) → (sizes_fit w h n ≡ false) ↔ (OutOfRange w h ⊎ (4 < n))
unfolding sizes_fit
sizes-fit w h n =
    or_fails _ (leb n 4)
    (or_fails _ (leb h 200)
    (or_fails _ (leb 1 h)
    (or_fails (leb 8 w && leb w 1024) (eqb (w % 8) 0) (or_fails (leb 8 w) (leb w 1024) (not-up_to 8 w) (not-up_to w 1024)) (differs (w % 8) 0) then swapped)
    (not-up_to 1 h))
    (not-up_to h 200)
    then flat_sum
    then flat_sum
    then either_way same flat_sum)
    (not-up_to n 4)

pub picture-fits : (width height : ℕ) → (picture_fits width height ≡ false) ↔ OutOfPicture width height
unfolding picture_fits
picture-fits width height =
    or_fails _ (leb height 200)
    (or_fails _ (leb 1 height) (or_fails (leb 1 width) (leb width 128) (not-up_to 1 width) (not-up_to width 128)) (not-up_to 1 height))
    (not-up_to height 200)
    then flat_sum
    then flat_sum

pub sizes-allowed : (w h : ℕ) → (sizes_allowed w h ≡ false) ↔ OutOfRange w h
unfolding sizes_allowed
sizes-allowed w h =
    or_fails (eqb (w % 8) 0) _ (differs (w % 8) 0)
    (or_fails (leb 8 w) _ (not-up_to 8 w)
    (or_fails (leb w 1024) _ (not-up_to w 1024)
    (or_fails (leb 1 h) (leb h 200) (not-up_to 1 h) (not-up_to h 200))))

pub not-allowed : (room : scene.Room) (e : Entry) → (allowed room e ≡ false) ↔ NotAllowed room e
not-allowed room e =
    let w = room.width e.object in
    let h = room.tall e.object in
    rw (allowed-row room e)
    (or_fails _ (leb (e.y + h) room.height)
    (or_fails _ (leb (e.x + w) (8 * room.strips))
    (or_fails _ (ltb 0 h)
    (or_fails _ (ltb 0 w) (or_fails (eqb (e.x % 8) 0) (eqb (w % 8) 0) (differs (e.x % 8) 0) (differs (w % 8) 0)) (not-below 0 w))
    (not-below 0 h))
    (not-up_to (e.x + w) (8 * room.strips)))
    (not-up_to (e.y + h) room.height)
    then flat_sum
    then flat_sum
    then flat_sum
    then flat_sum)

-- an object, its image and the state
pub not-drawable : (s : List ℕ) (o st : ℕ) → (drawable s o st ≡ false) ↔ NotDrawable s o st
unfolding drawable
not-drawable s o st =
    or_fails _ (is_at (state_block s o st))
    (or_fails _ (state_right st (image_count s o))
    (or_fails (is_object s o) (is_at (image_block s o))
    (or_fails (leb 1 o) (leb o (object_count s)) (not-up_to 1 o) (not-up_to o (object_count s)))
    (is_missing (image_block s o)))
    (or_fails (leb 1 st && leb st 9) (leb st (image_count s o)) (or_fails (leb 1 st) (leb st 9) (not-up_to 1 st) (not-up_to st 9))
    (not-up_to st (image_count s o))
    then flat_sum))
    (is_missing (state_block s o st))
    then flat_sum
    then flat_sum
