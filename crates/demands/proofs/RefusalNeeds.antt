-- When a needed block is missing or too short (refusal 2): the room's own, and those of its objects.
use Rattle.std.proofs.Common.{◌≡◌, refl, sym, ap, ◌∙◌, Bool, true, false, true≢false, List, [], ◌∷◌, ◌⊎◌, inl, inr, ◌↔◌, ℕ, suc, ◌+◌, arith, length, get_or, Option, Some, None}
use mathlib.Core.Bool.{false≢true}
use Rattle.block.specs.Tag.{tag-RMHD, tag-RMIM, tag-RMIH, tag-IM00, tag-SMAP, tag-OBCD, tag-CDHD, tag-OBIM, tag-IMHD, tag-TRNS}
use Rattle.block.specs.Tree.{tagged, nth_tag, find_tag, need_tag, is_at, has_in, all_of, each_has}
use Rattle.room.specs.Head.{when_found, both_found, headed_in, with_header, background_in, needed_in, objects_right, trns_in, holds_index}
use Rattle.room.specs.declared.Parts.{Parts}
use Rattle.demands.specs.RoomRefusals.{BackgroundMissing, NeededMissing, Lacks, ObjectLacks, IndexLacks}
use Rattle.demands.proofs.RefusalTests.{or_fails, one_fails, not-below}
use Rattle.demands.proofs.RefusalObjects.{all_of_each}

not-all : (p : Parts) → Some p ≡ None → ⊥
not-all p e = let z : ◌≡◌ {A = ℕ} 0 1 = cc in omega arith

not_at : (b z : ℕ) → ◌≡◌ {A = Option (ℕ × ℕ)} (Some (b, z)) None → ⊥
not_at b z e = let q : ◌≡◌ {A = ℕ} 0 1 = cc in omega arith

pub is_missing : (f : Option (ℕ × ℕ)) → (is_at f ≡ false) ↔ (f ≡ None)
is_missing (Some (b, z)) = (λ e. absurd (true≢false e), λ e. absurd (not_at b z e))
is_missing None = (λ e. refl, λ e. refl)

-- a header and the block beside it, and what comes after: nothing is missing but what one of them finds
module _ (f g : Option (ℕ × ℕ)) (next : ℕ → ℕ → ℕ → Option Parts) where
  header_lacks : with_header (both_found f g) next ≡ None
      → (f ≡ None) ⊎ (g ≡ None) ⊎ ((hd : ℕ) × (end : ℕ) × (b : ℕ) × (z : ℕ) × (f ≡ Some (hd, end)) × (g ≡ Some (b, z)) × (next hd b z ≡ None))
  header_lacks e = go f g e
    where
      go : (f g : Option (ℕ × ℕ)) → with_header (both_found f g) next ≡ None
          → (f ≡ None) ⊎ (g ≡ None) ⊎ ((hd : ℕ) × (end : ℕ) × (b : ℕ) × (z : ℕ) × (f ≡ Some (hd, end)) × (g ≡ Some (b, z)) × (next hd b z ≡ None))
      go (Some (hd, end)) (Some (b, z)) e = inr (inr (hd, end, b, z, refl, refl, e))
      go (Some (hd, end)) None e = inr (inl refl)
      go None g e = inl refl

  first_missing : f ≡ None → with_header (both_found f g) next ≡ None
  first_missing e = ap (λ (q : Option (ℕ × ℕ)). with_header (both_found q g) next) e

  second_missing : g ≡ None → with_header (both_found f g) next ≡ None
  second_missing e = ap (λ (q : Option (ℕ × ℕ)). with_header (both_found f q) next) e ∙ go f
    where
      go : (f : Option (ℕ × ℕ)) → with_header (both_found f None) next ≡ None
      go (Some (hd, end)) = refl
      go None = refl

  later_missing : (b z : ℕ) → g ≡ Some (b, z) → ((hd : ℕ) → next hd b z ≡ None) → with_header (both_found f g) next ≡ None
  later_missing b z e later = ap (λ (q : Option (ℕ × ℕ)). with_header (both_found f q) next) e ∙ go f
    where
      go : (f : Option (ℕ × ℕ)) → with_header (both_found f (Some (b, z))) next ≡ None
      go (Some (hd, end)) = later hd
      go None = refl

module _ (s : List ℕ) where
  abbrev smap_after : ℕ → ℕ → ℕ → ℕ → Option Parts
  smap_after hd ih bg end =
      when_found (find_tag tag-SMAP s bg end) λ sm sm-end.
      Some (record { header = hd; image_header = ih; image = bg; image_end = end; smap = sm; smap_end = sm-end })

  smap_lacks : (f : Option (ℕ × ℕ)) (next : ℕ → ℕ → Parts) → when_found f (λ a z. Some (next a z)) ≡ None → f ≡ None
  smap_lacks (Some (a, z)) next e = absurd (not-all (next a z) e)
  smap_lacks None next e = refl

  module _ (hd im e : ℕ) where
    abbrev header : Option (ℕ × ℕ)
    header = need_tag tag-RMIH 2 s im e

    abbrev image : Option (ℕ × ℕ)
    image = need_tag tag-IM00 0 s im e

    background_there : background_in s hd im e ≡ None → BackgroundMissing s im e
    unfolding background_in headed_in
    background_there w = go (header_lacks header image (smap_after hd) w)
      where
        go : (header ≡ None) ⊎ (image ≡ None)
            ⊎ ((ih : ℕ) × (end : ℕ) × (b : ℕ) × (z : ℕ) × (header ≡ Some (ih, end)) × (image ≡ Some (b, z)) × (smap_after hd ih b z ≡ None))
            → BackgroundMissing s im e
        go (inl none) = inl none
        go (inr (inl none)) = inr (inl none)
        go (inr (inr (ih, end, b, z, here, at, none))) = inr (inr (b, z, at, smap_lacks (find_tag tag-SMAP s b z) _ none))

    background_back : BackgroundMissing s im e → background_in s hd im e ≡ None
    unfolding background_in headed_in
    background_back (inl none) = first_missing header image (smap_after hd) none
    background_back (inr (inl none)) = second_missing header image (smap_after hd) none
    background_back (inr (inr (b, z, at, none))) =
        later_missing header image (smap_after hd) b z at
        (λ ih. ap (λ (f : Option (ℕ × ℕ)). when_found f (λ sm end.
        Some (record { header = hd; image_header = ih; image = b; image_end = z; smap = sm; smap_end = end }))) none)

  abbrev room_header : Option (ℕ × ℕ)
  room_header = need_tag tag-RMHD 6 s 8 (length s)

  abbrev room_image : Option (ℕ × ℕ)
  room_image = need_tag tag-RMIM 0 s 8 (length s)

  needed_there : needed_in s ≡ None → NeededMissing s
  unfolding needed_in headed_in
  needed_there w = go (header_lacks room_header room_image (background_in s) w)
    where
      go : (room_header ≡ None) ⊎ (room_image ≡ None)
          ⊎ ((hd : ℕ) × (end : ℕ) × (b : ℕ) × (z : ℕ) × (room_header ≡ Some (hd, end)) × (room_image ≡ Some (b, z)) × (background_in s hd b z ≡ None))
          → NeededMissing s
      go (inl none) = inl none
      go (inr (inl none)) = inr (inl none)
      go (inr (inr (hd, end, b, z, here, at, none))) = inr (inr (b, z, at, background_there hd b z none))

  needed_back : NeededMissing s → needed_in s ≡ None
  unfolding needed_in headed_in
  needed_back (inl none) = first_missing room_header room_image (background_in s) none
  needed_back (inr (inl none)) = second_missing room_header room_image (background_in s) none
  needed_back (inr (inr (b, z, at, none))) = later_missing room_header room_image (background_in s) b z at (λ hd. background_back hd b z none)

  pub needed_missing : (needed_in s ≡ None) ↔ NeededMissing s
  needed_missing = (needed_there, needed_back)

  -- ---- objects

  module _ (t c n : ℕ) where
    lacks_there : (l : List (Option (ℕ × ℕ))) → all_of (has_in c n s) l ≡ false → (k : ℕ) × (b : ℕ) × (z : ℕ) × (get_or l k None ≡ Some (b, z)) ×
        (need_tag c n s (b + 8) z ≡ None)
    lacks_there [] e = absurd (true≢false e)
    lacks_there (f ∷ l) e = go f ((one_fails (has_in c n s f) (all_of (has_in c n s) l)).0 e) (lacks_there l)
      where
        go : (f : Option (ℕ × ℕ)) → (has_in c n s f ≡ false) ⊎ (all_of (has_in c n s) l ≡ false)
            → (all_of (has_in c n s) l ≡ false → (k : ℕ) × (b : ℕ) × (z : ℕ) × (get_or l k None ≡ Some (b, z)) × (need_tag c n s (b + 8) z ≡ None))
            → (k : ℕ) × (b : ℕ) × (z : ℕ) × (get_or (f ∷ l) k None ≡ Some (b, z)) × (need_tag c n s (b + 8) z ≡ None)
        go (Some (b, z)) (inl none) later = (0, b, z, refl, (is_missing (need_tag c n s (b + 8) z)).0 none)
        go None (inl none) later = absurd (true≢false none)
        go f (inr w) later = let (k, b, z, at, none) = later w in (suc k, b, z, at, none)

    lacks_back : (k b z : ℕ) → nth_tag t s 8 (length s) k ≡ Some (b, z) → need_tag c n s (b + 8) z ≡ None
        → (q : Bool) → each_has t c n s 8 (length s) ≡ q → q ≡ false
    unfolding each_has
    lacks_back k b z at none true e =
        absurd (false≢true (
        sym (ap is_at none) ∙ sym (ap (has_in c n s) at) ∙ all_of_each (has_in c n s) (tagged t s 8 (length s)) k refl e))
    lacks_back k b z at none false e = refl

    each_lacks : (each_has t c n s 8 (length s) ≡ false) ↔ ((k : ℕ) × Lacks t c n s k)
    unfolding each_has
    each_lacks = (
      λ e. let (k, b, z, at, none) = lacks_there (tagged t s 8 (length s)) e in (k, (b, z, at, none)),
      λ (k, (b, z, at, none)). lacks_back k b z at none (each_has t c n s 8 (length s)) refl,
    )

  pub index_lacks : (holds_index (trns_in s) ≡ false) ↔ IndexLacks s
  unfolding trns_in
  index_lacks = (λ e. go (find_tag tag-TRNS s 8 (length s)) refl e, λ (b, z, at, le). rw at ((not-below (b + 8) z).1 le))
    where
      go : (f : Option (ℕ × ℕ)) → find_tag tag-TRNS s 8 (length s) ≡ f → holds_index f ≡ false → IndexLacks s
      go (Some (b, z)) at e = (b, z, at, (not-below (b + 8) z).0 e)
      go None at e = absurd (true≢false e)

  pub object_lacks : (objects_right s ≡ false) ↔ ObjectLacks s
  unfolding objects_right
  object_lacks =
      or_fails (each_has tag-OBCD tag-CDHD 13 s 8 (length s)) (each_has tag-OBIM tag-IMHD 16 s 8 (length s)) (each_lacks tag-OBCD tag-CDHD 13)
      (each_lacks tag-OBIM tag-IMHD 16)
