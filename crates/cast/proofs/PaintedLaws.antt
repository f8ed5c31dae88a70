-- The stamps of a list one by one: that each is accepted, and what they leave at one byte of the frame. Assumes nothing.
use Rattle.std.proofs.Common.{true, List, [], ◌∷◌, ◌≡◌, refl, ◌∙◌, ℕ, zero, suc, ◌+◌, ◌*◌, ◌≤◌, ◌<◌, le_of_suc-le-suc, not-suc-le-zero, arith, leb-true, le-leb, length, get_or, drop}
use Rattle.actor.specs.Sizes.{sizes_fit, picture_fits, mask_bytes, buffers_fit}
use Rattle.actor.specs.Stamp.{stamp_number, stamp_frame}
use Rattle.actor.proofs.ActorLaws.{same_length}
use Rattle.actor.proofs.SizeLaws.{none-refused}
use Rattle.cast.specs.declared.Actor.{Actor}
use Rattle.cast.specs.Call.{record_number, stamp_all}

-- ---- a right record: its size is allowed, its picture stands in the buffer, and its stamp is accepted
module _ (pictures : ℕ) (a : Actor) (right : record_number pictures a ≡ 0) where
  pub right_record : (picture_fits a.width a.height ≡ true) × (a.start + a.width * a.height ≤ pictures)
  unfolding record_number
  right_record =
      let sized = none-refused _ _ _ right in
      let ends = none-refused _ _ _ sized.1 in
      (sized.0, leb-true _ _ ends.0)

  pub stamp_right : (frame masks picture w h n : ℕ) → sizes_fit w h n ≡ true → w * h ≤ frame → mask_bytes w h n ≤ masks → a.width * a.height ≤ picture
      → stamp_number frame masks picture w h n a.width a.height ≡ 0
  unfolding stamp_number buffers_fit
  stamp_right frame masks picture w h n sizes long planes whole =
      rw (sizes, right_record.0, le-leb (w * h) frame long, le-leb (mask_bytes w h n) masks planes, le-leb (a.width * a.height) picture whole)

-- ---- all of them
module _ (masks pictures : List ℕ) (w h n clear : ℕ) where
  -- the stamp of one
  abbrev pub one : Actor → List ℕ → List ℕ
  one a frame = stamp_frame frame masks (drop a.start pictures) w h n a.width a.height clear a.left a.top a.clip

  pub one-length : (a : Actor) (frame : List ℕ) → length (one a frame) ≡ length frame
  one-length a frame = same_length frame masks (drop a.start pictures) w h n a.width a.height clear a.left a.top a.clip

  pub all-length : (l : List Actor) (frame : List ℕ) → length (stamp_all masks pictures w h n clear l frame) ≡ length frame
  unfolding stamp_all
  all-length [] frame = refl
  all-length (a ∷ l) frame = all-length l (one a frame) ∙ one-length a frame

  -- byte i of a frame of so many bytes, over a list past whose end `none` stands
  module _ (size i : ℕ) (none : Actor) where
    -- a stamp leaves it
    abbrev pub Leaves : Actor → Type 0
    Leaves a = (frame : List ℕ) → length frame ≡ size → get_or (one a frame) i 0 ≡ get_or frame i 0

    -- or makes it v
    abbrev pub Makes : ℕ → Actor → Type 0
    Makes v a = (frame : List ℕ) → length frame ≡ size → get_or (one a frame) i 0 ≡ v

    pub all_leave : (l : List Actor) → ((j : ℕ) → j < length l → Leaves (get_or l j none)) → (frame : List ℕ) → length frame ≡ size
        → get_or (stamp_all masks pictures w h n clear l frame) i 0 ≡ get_or frame i 0
    unfolding stamp_all
    all_leave [] f frame long = refl
    all_leave (a ∷ l) f frame long =
        all_leave l (λ j lt. f (suc j) (omega arith)) (one a frame) (one-length a frame ∙ long) ∙ f 0 (omega arith) frame long

    -- the last that doesn't leave it
    pub last_makes : (l : List Actor) (k v : ℕ) → k < length l → Makes v (get_or l k none) → ((j : ℕ) → k < j → j < length l → Leaves (get_or l j none))
        → (frame : List ℕ) → length frame ≡ size → get_or (stamp_all masks pictures w h n clear l frame) i 0 ≡ v
    unfolding stamp_all
    last_makes [] k v lt makes leave frame long = absurd (not-suc-le-zero lt)
    last_makes (a ∷ l) zero v lt makes leave frame long =
        all_leave l (λ j less. leave (suc j) (omega arith) (omega arith)) (one a frame) (one-length a frame ∙ long) ∙ makes frame long
    last_makes (a ∷ l) (suc k) v lt makes leave frame long =
        last_makes l k v (le_of_suc-le-suc lt) makes (λ j before less. leave (suc j) (omega arith) (omega arith)) (one a frame) (one-length a frame ∙ long)
