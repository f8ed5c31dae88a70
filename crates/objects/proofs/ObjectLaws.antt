-- Laws of objects: where their blocks and headers lie.
use Rattle.std.proofs.Common.{◌≡◌, refl, ap, ◌∙◌, List, [], ◌∷◌, ◌++◌, Bool, true, false, cond, ℕ, suc, ◌+◌, ◌-◌, ◌≤◌, ◌<◌, arith, get_or, take, drop, length, eqb, Option, Some, None, Result, Ok, Err}
use Rattle.std.proofs.lemmas.List.{at_drop_more}
use mathlib.Core.Path.{subst⁻¹}
use Rattle.block.specs.Tag.{tag-OBCD, tag-CDHD}
use Rattle.block.specs.Tree.{Inside, nth_tag, need_tag}
use Rattle.block.proofs.Laws.{Held, need_in, nth_in}
use Rattle.room.specs.Test.{room_test, fixed_only}
use Rattle.room.proofs.TestLaws.{Passes, test-passes, fixed_long}
use Rattle.objects.specs.Object.{payload_at, cdhd_in, object_block, block_or_absent, chosen_after, chosen_block, header_in, header_place, header_bytes}
use Rattle.room.specs.declared.Lent.{Lent}
use Rattle.room.specs.declared.Room.{Room}

module _ (s : List ℕ) where
  -- an object's block lies in the room
  pub object_in : (k : ℕ) → Inside 8 (length s) (object_block s k)
  unfolding object_block
  object_in k = go (eqb k 0)
    where
      go : (q : Bool) → Inside 8 (length s) (cond q None (nth_tag tag-OBCD s 8 (length s) (k - 1)))
      go true = tt
      go false = nth_in tag-OBCD s 8 (length s) (k - 1)

  -- the block of the object that a call names lies in the room, which passes its test
  abbrev pub ChosenIn : Lent → Result (ℕ × ℕ) ℕ → Type 0
  ChosenIn lent (Ok (b, z)) = (8 ≤ b) × (b + 8 ≤ z) × (z ≤ length s) × ((r : Room) × Passes lent s r)
  ChosenIn lent (Err n) = Unit {0}

  or_absent : (lent : Lent) (r : Room) → Passes lent s r → (f : Option (ℕ × ℕ)) → Inside 8 (length s) f → ChosenIn lent (block_or_absent f)
  or_absent lent r passes (Some (b, z)) i = (i.0, i.1, i.2, (r, passes))
  or_absent lent r passes None i = tt

  chosen-after : (lent : Lent) (k : ℕ) (t : Result Room ℕ) → t ≡ room_test lent s → ChosenIn lent (chosen_after s k t)
  chosen-after lent k (Ok r) e = or_absent lent r (test-passes lent s r e) (object_block s k) (object_in k)
  chosen-after lent k (Err n) e = tt

  pub chosen_in : (lent : Lent) (k : ℕ) → ChosenIn lent (chosen_block lent s k)
  unfolding chosen_block
  chosen_in lent k = chosen-after lent k (room_test lent s) refl

  pub chosen_at : (lent : Lent) (k b z : ℕ) → Ok (b, z) ≡ chosen_block lent s k
      → (8 ≤ b) × (b + 8 ≤ z) × (z ≤ length s) × ((r : Room) × Passes lent s r)
  chosen_at lent k b z h = subst⁻¹ (ChosenIn lent) h (chosen_in lent k)

  -- a header lies in the room
  abbrev HeaderIn : Result ℕ ℕ → Type 0
  HeaderIn (Ok p) = p + 13 ≤ length s
  HeaderIn (Err n) = Unit {0}

  payload_in : (a e : ℕ) (f : Option (ℕ × ℕ)) → e ≤ length s → Held 13 a e f → HeaderIn (payload_at f)
  payload_in a e (Some (p, z)) l i = omega arith
  payload_in a e None l i = tt

  cdhd-in : (b z : ℕ) → z ≤ length s → HeaderIn (cdhd_in s b z)
  cdhd-in b z le = payload_in (b + 8) z (need_tag tag-CDHD 13 s (b + 8) z) le (need_in tag-CDHD 13 s (b + 8) z)

  pub cdhd-at : (b z p : ℕ) → z ≤ length s → Ok p ≡ cdhd_in s b z → p + 13 ≤ length s
  cdhd-at b z p le h = subst⁻¹ HeaderIn h (cdhd-in b z le)

  -- and it was asked for with a buffer that is long enough
  abbrev Placed : Lent → Result ℕ ℕ → Type 0
  Placed lent (Ok p) = (p + 13 ≤ length s) × ((r : Room) × Passes lent s r)
  Placed lent (Err n) = Unit {0}

  place_of : (lent : Lent) (q : Result ℕ ℕ) → HeaderIn q → ((r : Room) × Passes lent s r) → Placed lent q
  place_of lent (Ok p) h passes = (h, passes)
  place_of lent (Err n) h passes = tt

  place_in : (lent : Lent) (f : Result (ℕ × ℕ) ℕ) → ChosenIn lent f → Placed lent (header_in s f)
  place_in lent (Ok (b, z)) i = place_of lent (cdhd_in s b z) (cdhd-in b z i.2) i.3
  place_in lent (Err n) i = tt

  pub place_at : (lent : Lent) (k p : ℕ) → Ok p ≡ header_place lent s k → (p + 13 ≤ length s) × ((r : Room) × Passes lent s r)
  unfolding header_place
  place_at lent k p h = subst⁻¹ (Placed lent) h (place_in lent (chosen_block lent s k) (chosen_in lent k))

  pub place-long : (size n k p : ℕ) → Ok p ≡ header_place (fixed_only size n) s k → size ≤ n
  place-long size n k p h =
      let i = place_at (fixed_only size n) k p h in
      fixed_long size n i.1.0 i.1.1.enough

-- thirteen bytes of a slice and three zeros are a header
module _ (s : List ℕ) (p : ℕ) where
  byte_more : (n k : ℕ) → p + k < length s → take (suc n) (drop (p + k) s) ≡ get_or s (p + k) 0 ∷ take n (drop (p + suc k) s)
  byte_more n k h =
      let next : p + k + 1 ≡ p + suc k = omega arith in
      at_drop_more (take (suc n)) s (p + k) 0 h ∙ ap (λ (i : ℕ). get_or s (p + k) 0 ∷ take n (drop i s)) next

  pub header_copied : p + 13 ≤ length s → take 13 (drop p s) ++ 0 ∷ 0 ∷ 0 ∷ [] ≡ header_bytes s p
  unfolding header_bytes
  header_copied h =
      let first : take 13 (drop p s) ≡ get_or s p 0 ∷ take 12 (drop (p + 1) s) = at_drop_more (take 13) s p 0 (omega arith) in
      rw (
        first,
        byte_more 11 1 (omega arith),
        byte_more 10 2 (omega arith),
        byte_more 9 3 (omega arith),
        byte_more 8 4 (omega arith),
        byte_more 7 5 (omega arith),
        byte_more 6 6 (omega arith),
        byte_more 5 7 (omega arith),
        byte_more 4 8 (omega arith),
        byte_more 3 9 (omega arith),
        byte_more 2 10 (omega arith),
        byte_more 1 11 (omega arith),
        byte_more 0 12 (omega arith),
      )
