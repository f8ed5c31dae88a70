-- What an accepted kg_header leaves: the fields of the record are the numbers of CDHD in the object's OBCD.
use Rattle.std.proofs.Common.{◌≡◌, refl, subst, List, ℕ, ◌+◌, ◌*◌, ◌≤◌, length, get_or, arith, Option, Some, None, Result, Ok, Err}
use Rattle.number.specs.Number.{le16, signed16}
use Rattle.number.specs.Buffer.{over}
use Rattle.block.specs.Tag.{tag-CDHD}
use Rattle.block.specs.Tree.{need_tag}
use Rattle.room.specs.Test.{room_test, fixed_only}
use Rattle.room.specs.declared.Lent.{Lent}
use Rattle.room.specs.declared.Room.{Room}
use Rattle.objects.specs.Object.{payload_at, cdhd_at, object_block, block_or_absent, chosen_after, chosen_block, header_in, header_place, header_bytes, place_number, header_after, header_call}
use Rattle.demands.proofs.RefusalRooms.{Verdict, verdict, number_is}

-- the fields of the record that holds a header's bytes
record_fields : (s out : List ℕ) (p : ℕ) → cdhd_at (over (header_bytes s p) out) 0 ≡ cdhd_at s p
unfolding cdhd_at over header_bytes
record_fields s out p =
    let low : p + 9 ≡ p + 8 + 1 = omega arith in
    let high : p + 11 ≡ p + 10 + 1 = omega arith in
    λ i. record {
      id = le16 s p;
      x = get_or s (p + 2) 0;
      y = get_or s (p + 3) 0;
      width = get_or s (p + 4) 0;
      height = get_or s (p + 5) 0;
      flags = get_or s (p + 6) 0;
      parent = get_or s (p + 7) 0;
      walkx = signed16 (get_or s (p + 8) 0 + get_or s (low i) 0 * 256);
      walky = signed16 (get_or s (p + 10) 0 + get_or s (high i) 0 * 256);
      direction = get_or s (p + 12) 0;
    }

-- the block and the header of an object, by the answers on the way
abbrev HeaderOf : List ℕ → ℕ → Result ℕ ℕ → Type 0
HeaderOf s k (Ok p) = (from to end : ℕ) × (object_block s k ≡ Some (from, to)) × (need_tag tag-CDHD 13 s (from + 8) to ≡ Some (p, end))
HeaderOf s k (Err n) = 1 ≤ n

module _ (s : List ℕ) (k : ℕ) where
  cdhd-of : (from to : ℕ) → object_block s k ≡ Some (from, to) → (f : Option (ℕ × ℕ)) → need_tag tag-CDHD 13 s (from + 8) to ≡ f → HeaderOf s k (payload_at f)
  cdhd-of from to block (Some (p, end)) at = (from, to, end, block, at)
  cdhd-of from to block None at = omega arith

  block_of : (f : Option (ℕ × ℕ)) → object_block s k ≡ f → HeaderOf s k (header_in s (block_or_absent f))
  block_of (Some (from, to)) e = cdhd-of from to e (need_tag tag-CDHD 13 s (from + 8) to) refl
  block_of None e = omega arith

  tested_of : (lent : Lent) (t : Result Room ℕ) → room_test lent s ≡ t → HeaderOf s k (header_in s (chosen_after s k t))
  tested_of lent (Ok r) e = block_of (object_block s k) refl
  tested_of lent (Err n) e = (number_is lent s n (subst (Verdict lent s) e (verdict lent s))).0

  place_of : (lent : Lent) → HeaderOf s k (header_place lent s k)
  unfolding header_place chosen_block
  place_of lent = tested_of lent (room_test lent s) refl

  -- what an accepted call leaves
  pub header_read : (out : List ℕ) → place_number (header_call s out k) ≡ 0
      → (from to cdhd end : ℕ) × (object_block s k ≡ Some (from, to)) × (need_tag tag-CDHD 13 s (from + 8) to ≡ Some (cdhd, end))
      × (cdhd_at (header_after s (header_call s out k) out) 0 ≡ cdhd_at s cdhd)
  header_read out ok = go (header_call s out k) (place_of (fixed_only 16 (length out))) ok
    where
      go : (q : Result ℕ ℕ) → HeaderOf s k q → place_number q ≡ 0
          → (from to cdhd end : ℕ) × (object_block s k ≡ Some (from, to)) × (need_tag tag-CDHD 13 s (from + 8) to ≡ Some (cdhd, end))
          × (cdhd_at (header_after s q out) 0 ≡ cdhd_at s cdhd)
      go (Ok p) (from, to, end, block, at) e = (from, to, p, end, block, at, record_fields s out p)
      go (Err n) some e = absurd (omega (arith, some, e))
