-- A room that passes its test has as many objects as OBCD blocks directly under ROOM: what the table of objects asks of it.
use Rattle.std.proofs.Common.{◌≡◌, refl, List, Bool, true, false, cond, ◌&&◌, ℕ, ◌≤◌, length, Option, Some, None, Result, Ok, Err}
use mathlib.Core.Path.{subst⁻¹}
use Rattle.block.specs.Tree.{well_formed}
use Rattle.room.specs.Head.{needed_in, objects_right, trns_in, holds_index, sizes_right, room_of, sized, head_in, head_of}
use Rattle.room.specs.Test.{pictures_test, short, room_when_passed, after_head, room_test}
use Rattle.room.specs.declared.Parts.{Parts}
use Rattle.room.specs.declared.Lent.{Lent}
use Rattle.room.specs.declared.Room.{Room}
use Rattle.room.proofs.TestLaws.{test-passes}
use Rattle.image.specs.Image.{object_count}

module _ (s : List ℕ) where
  abbrev Counted : Result Room ℕ → Type 0
  Counted (Ok r) = r.objects ≡ object_count s
  Counted (Err n) = Unit {0}

  count_needed : (f : Option Parts) → Counted (head_in s f)
  unfolding sized room_of
  count_needed (Some p) = go (objects_right s && holds_index (trns_in s))
    where
      size : (q : Bool) → Counted (cond q (Ok (room_of s p)) (Err 3))
      size true = refl
      size false = tt

      go : (q : Bool) → Counted (cond q (sized (room_of s p)) (Err 2))
      go true = size (sizes_right (room_of s p).width (room_of s p).height (room_of s p).planes (room_of s p).objects)
      go false = tt
  count_needed None = tt

  count_head : Counted (head_of s)
  unfolding head_of
  count_head = go (well_formed s)
    where
      go : (q : Bool) → Counted (cond q (head_in s (needed_in s)) (Err 1))
      go true = count_needed (needed_in s)
      go false = tt

  count-after : (lent : Lent) (t : Result Room ℕ) → Counted t → Counted (after_head lent s t)
  unfolding after_head
  count-after lent (Ok r) h = go (short lent r) (pictures_test s r)
    where
      pass : (p : Result (Unit {0}) ℕ) → Counted (room_when_passed p r)
      pass (Ok tt) = h
      pass (Err n) = tt

      go : (q : Bool) (p : Result (Unit {0}) ℕ) → Counted (cond q (Err 4) (room_when_passed p r))
      go true p = tt
      go false p = pass p
  count-after lent (Err n) h = tt

  module _ (lent : Lent) (r : Room) (right : Ok r ≡ room_test lent s) where
    pub objects-counted : r.objects ≡ object_count s
    unfolding room_test
    objects-counted = subst⁻¹ Counted right (count-after lent (head_of s) count_head)

    -- what the table of objects asks
    pub few-objects : (length s ≤ 1048576) × (object_count s ≤ 128)
    few-objects =
        let sound = (test-passes lent s r right).sound in
        (sound.small, rw (← objects-counted) sound.counted)
