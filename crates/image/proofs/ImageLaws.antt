-- Laws of objects and their images: where they lie, and which states there are.
use Rattle.std.proofs.Common.{◌≡◌, refl, sym, ◌∙◌, List, [], ◌∷◌, Bool, true, false, ◌&&◌, cond, not, ℕ, suc, ◌+◌, ◌-◌, ◌≤◌, arith, leb, get_or, length, ne_eqb, leb-true, Option, Some, None, is_some}
use mathlib.Core.Path.{subst⁻¹}
use mathlib.Core.Bool.{and-false}
use borrow.Author.Tests.{not-true, not-false}
use Rattle.number.proofs.BoolLaws.{and_left, and_right}
use Rattle.block.specs.Tag.{tag-OBCD, tag-OBIM, tag-IM}
use Rattle.block.specs.Tree.{tagged, nth_tag, find_tag, is_at, Inside}
use Rattle.block.proofs.Laws.{nth_in}
use Rattle.objects.specs.Object.{object_block}
use Rattle.image.specs.Image.{object_count, object_id, has_id, first_of, image_block, state_in, state_block, is_object, state_right, image_count, drawable}
use Rattle.image.specs.Gathered.{start_of, end_of}
use Rattle.image.proofs.WalkLaws.{walk-each}

module _ (s : List ℕ) where
  -- object n + 1 is the OBCD of number n from 0
  pub object_nth : (n : ℕ) → object_block s (n + 1) ≡ nth_tag tag-OBCD s 8 (length s) n
  unfolding object_block
  object_nth n =
      let back : n + 1 - 1 ≡ n = omega arith in
      rw (ne_eqb (n + 1) 0 (λ e. omega arith), back)

  -- objects 1 to the count are there
  pub object_there : (o : ℕ) → 1 ≤ o → o ≤ object_count s → is_at (object_block s o) ≡ true
  object_there o one le =
      let same : o - 1 + 1 ≡ o = omega arith in
      rw (← same) (rw (object_nth (o - 1)) (walk-each tag-OBCD s (length s) 8 (o - 1) (omega arith)))

  pub image-of : (o : ℕ) → 1 ≤ o → o ≤ object_count s → first_of (has_id s (object_id s o)) (tagged tag-OBIM s 8 (length s)) ≡ image_block s o
  unfolding image_block
  image-of o one le = rw (object_there o one le)

  first_in : (P : Option (ℕ × ℕ) → Type 0) → P None → (passes : Option (ℕ × ℕ) → Bool) (l : List (Option (ℕ × ℕ))) → ((k : ℕ) → P (get_or l k None))
      → P (first_of passes l)
  unfolding first_of
  first_in P m passes [] h = m
  first_in P m passes (f ∷ l) h = go (passes f) (first_in P m passes l (λ k. h (suc k)))
    where
      go : (q : Bool) → P (first_of passes l) → P (cond q f (first_of passes l))
      go true r = h 0
      go false r = r

  -- an image lies in the room
  pub image_in : (o : ℕ) → Inside 8 (length s) (image_block s o)
  unfolding image_block
  image_in o = go (is_at (object_block s o))
    where
      go : (q : Bool) → Inside 8 (length s) (cond q (first_of (has_id s (object_id s o)) (tagged tag-OBIM s 8 (length s))) None)
      go true = first_in (Inside 8 (length s)) tt (has_id s (object_id s o)) (tagged tag-OBIM s 8 (length s)) (λ k. nth_in tag-OBIM s 8 (length s) k)
      go false = tt

  end_in : (f : Option (ℕ × ℕ)) → Inside 8 (length s) f → end_of f ≤ length s
  end_in (Some (b, z)) i = i.2
  end_in None i = omega arith

  pub image-end : (o : ℕ) → end_of (image_block s o) ≤ length s
  image-end o = end_in (image_block s o) (image_in o)

  -- the block of a state, from where the OBIM's payload stands
  none_in : (st : ℕ) (f : Option (ℕ × ℕ)) → start_of f ≡ 0 → None ≡ state_in s st f
  none_in st (Some (b, z)) h = absurd (omega arith)
  none_in st None h = refl

  some_in : (st : ℕ) (f : Option (ℕ × ℕ)) → (start_of f ≡ 0 → ⊥) → find_tag (tag-IM st) s (start_of f) (end_of f) ≡ state_in s st f
  some_in st (Some (b, z)) h = refl
  some_in st None h = absurd (h refl)

  module _ (o st start : ℕ) (starts : start ≡ start_of (image_block s o)) where
    pub state_none : start ≡ 0 → None ≡ state_block s o st
    unfolding state_block
    state_none h = none_in st (image_block s o) (sym starts ∙ h)

    pub state_some : (start ≡ 0 → ⊥) → (end : ℕ) → end ≡ end_of (image_block s o) → find_tag (tag-IM st) s start end ≡ state_block s o st
    unfolding state_block
    state_some h end ends = rw (starts, ends) (some_in st (image_block s o) (λ e. h (starts ∙ e)))

  -- a state's block lies in the room
  state_held : (st : ℕ) (f : Option (ℕ × ℕ)) → Inside 8 (length s) f → Inside 16 (length s) (state_in s st f)
  state_held st (Some (b, z)) i = go (find_tag (tag-IM st) s (b + 8) z) (nth_in (tag-IM st) s (b + 8) z 0)
    where
      go : (f : Option (ℕ × ℕ)) → Inside (b + 8) z f → Inside 16 (length s) f
      go (Some (b', z')) j = omega arith
      go None j = tt
  state_held st None i = tt

  pub state-at : (o st b z : ℕ) → Some (b, z) ≡ state_block s o st → (16 ≤ b) × (b + 8 ≤ z) × (z ≤ length s)
  unfolding state_block
  state-at o st b z h = subst⁻¹ (Inside 16 (length s)) h (state_held st (image_block s o) (image_in o))

  -- a state's block is in an image
  has_image : (st : ℕ) (f : Option (ℕ × ℕ)) → is_at (state_in s st f) ≡ true → is_at f ≡ true
  has_image st (Some (b, z)) h = refl
  has_image st None h = h

  -- what the tests of an object and of a state say
  pub object_right : (o : ℕ) → is_object s o ≡ true → (1 ≤ o) × (o ≤ object_count s)
  object_right o h = (
    leb-true 1 o (and_left (leb 1 o) (leb o (object_count s)) h),
    leb-true o (object_count s) (and_right (leb 1 o) (leb o (object_count s)) h),
  )

  module _ (objects : ℕ) (all : objects ≡ object_count s) (o : ℕ) where
    pub not_object : not (leb 1 o && leb o objects) ≡ true → is_object s o ≡ false
    not_object h = rw (← all) (not-true (leb 1 o && leb o objects) h)

    pub an_object : not (leb 1 o && leb o objects) ≡ false → is_object s o ≡ true
    an_object h = rw (← all) (not-false (leb 1 o && leb o objects) h)

  -- which states can be drawn, from the tests that the code makes
  module _ (o st : ℕ) where
    pub drawable_object : is_object s o ≡ false → false ≡ drawable s o st
    unfolding drawable
    drawable_object h = rw h

    pub drawable_state : (images : ℕ) → images ≡ image_count s o → state_right st images ≡ false → false ≡ drawable s o st
    unfolding drawable
    drawable_state images e h = rw (← e, h, and-false (is_object s o && is_at (image_block s o)))

    pub drawable_missing : None ≡ state_block s o st → false ≡ drawable s o st
    unfolding drawable
    drawable_missing h = rw (← h, and-false (is_object s o && is_at (image_block s o) && state_right st (image_count s o)))

    pub drawable_at : (images b z : ℕ) → images ≡ image_count s o → is_object s o ≡ true → state_right st images ≡ true
        → Some (b, z) ≡ state_block s o st → true ≡
        drawable s o st
    unfolding drawable state_block
    drawable_at images b z e h g at =
        let there : is_at (state_in s st (image_block s o)) ≡ true = rw (← at) in
        rw (h, has_image st (image_block s o) there, ← e, g, there)

    -- the same, whether the state's block is there or not
    pub drawable_block : (images : ℕ) → images ≡ image_count s o → is_object s o ≡ true → state_right st images ≡ true
        → (f : Option (ℕ × ℕ)) → f ≡ state_block s o st → is_some f ≡ drawable s o st
    drawable_block images e h g (Some (b, z)) at = drawable_at images b z e h g at
    drawable_block images e h g None at = drawable_missing at

pub state_bound : (st images : ℕ) → state_right st images ≡ true → st ≤ 9
state_bound st images h = leb-true st 9 (and_right (leb 1 st) (leb st 9) (and_left (leb 1 st && leb st 9) (leb st images) h))
