-- The numbers of a whole cast: 18, the frame's and the planes' 3 and 4, and those of the first bad record, each exactly when.
use Rattle.std.proofs.Common.{◌≡◌, refl, sym, subst, Bool, true, false, cond, ◌&&◌, List, [], ◌∷◌, ◌⊎◌, inl, inr, ◌↔◌, ℕ, ◌*◌, ◌≤◌, ◌<◌, arith, ltb, leb, eqb, length, get_or}
use Rattle.actor.specs.Sizes.{sizes_fit, picture_fits, mask_bytes}
use Rattle.cast.specs.declared.Actor.{Actor}
use Rattle.cast.specs.Call.{record_number, first_bad, number_in}
use Rattle.cast.proofs.NumberLaws.{number-chain, Accepted, accepted-exactly, First, all_right, first-bad}
use Rattle.demands.specs.Numbers.{Among2, Among3}
use Rattle.demands.specs.RoomRefusals.{OutOfPicture}
use Rattle.demands.specs.Refusals.{FrameFits, picture_end, RecordFits, FirstBad}
use Rattle.demands.proofs.RefusalTests.{fails, after_fails, fails_or, apart, holds, after_holds, below, not-below, up_to, not-up_to, both_hold}
use Rattle.demands.proofs.RefusalTests.{one_fails, ◌then◌, either_way, both_ways, unless, shared, same, renamed}
use Rattle.demands.proofs.RefusalSizes.{picture-fits}

-- ---- one record, in a buffer of so many bytes

module _ (pictures : ℕ) (a : Actor) where
  abbrev sized : Bool
  sized = picture_fits a.width a.height

  abbrev inside : Bool
  inside = leb (picture_end a) pictures

  record_chain : record_number pictures a ≡ cond sized (cond inside 0 4) 3
  unfolding record_number
  record_chain = refl

  size-right : (sized ≡ true) ↔ (OutOfPicture a.width a.height → ⊥)
  size-right = unless sized (picture-fits a.width a.height)

  record_zero : (record_number pictures a ≡ 0) ↔ RecordFits pictures a
  record_zero =
      renamed 0 record_chain
      then after_fails sized _ 3 0 (λ e. omega arith)
      then both_ways size-right (after_fails inside 0 4 0 (λ e. omega arith) then (λ (e, zero). e, λ e. (e, refl)) then up_to (picture_end a) pictures)

  record_three : (record_number pictures a ≡ 3) ↔ OutOfPicture a.width a.height
  record_three =
      renamed 3 record_chain
      then fails sized _ 3 (apart inside 0 4 3 (λ e. omega arith) (λ e. omega arith))
      then picture-fits a.width a.height

  record_four : (record_number pictures a ≡ 4) ↔ ((OutOfPicture a.width a.height → ⊥) × (pictures < picture_end a))
  record_four =
      renamed 4 record_chain
      then after_fails sized _ 3 4 (λ e. omega arith)
      then both_ways size-right (fails inside 0 4 (λ e. omega arith) then not-up_to (picture_end a) pictures)

  record_numbers : Among2 3 4 (record_number pictures a)
  record_numbers = subst (Among2 3 4) (sym record_chain) (go sized inside)
    where
      go : (t q : Bool) → Among2 3 4 (cond t (cond q 0 4) 3)
      go false q = inr (inl refl)
      go true false = inr (inr refl)
      go true true = inl refl

-- ---- the first bad one

first-same : (R S P Q : Actor → Type 0) (l : List Actor) → ((a : Actor) → R a ↔ S a) → ((a : Actor) → P a ↔ Q a) → First R P l ↔ First S Q l
first-same R S P Q l r p = (
  λ (i, lt, before, here). (i, lt, λ j none less. (r (get_or l j none)).0 (before j none less), λ none. (p (get_or l i none)).0 (here none)),
  λ (i, lt, before, here). (i, lt, λ j none less. (r (get_or l j none)).1 (before j none less), λ none. (p (get_or l i none)).1 (here none)),
)

module _ (pictures : ℕ) where
  bad_three : (l : List Actor) → (first_bad pictures l ≡ 3) ↔ FirstBad pictures l (λ a. OutOfPicture a.width a.height)
  bad_three l = first-bad pictures 3 (λ e. omega arith) l then first-same _ _ _ _ l (record_zero pictures) (record_three pictures)

  bad_four : (l : List Actor) → (first_bad pictures l ≡ 4) ↔ FirstBad pictures l (λ a. (OutOfPicture a.width a.height → ⊥) × (pictures < picture_end a))
  bad_four l = first-bad pictures 4 (λ e. omega arith) l then first-same _ _ _ _ l (record_zero pictures) (record_four pictures)

  bad_zero : (l : List Actor) → (first_bad pictures l ≡ 0) ↔ ((i : ℕ) (none : Actor) → i < length l → RecordFits pictures (get_or l i none))
  bad_zero l =
      all_right pictures l
      then (
        λ f i none lt. (record_zero pictures (get_or l i none)).0 (f i none lt),
        λ f i none lt. (record_zero pictures (get_or l i none)).1 (f i none lt),
      )

  bad_numbers : (l : List Actor) → Among2 3 4 (first_bad pictures l)
  unfolding first_bad
  bad_numbers [] = inl refl
  bad_numbers (a ∷ l) = go (eqb (record_number pictures a) 0) (bad_numbers l)
    where
      go : (t : Bool) → Among2 3 4 (first_bad pictures l) → Among2 3 4 (cond t (first_bad pictures l) (record_number pictures a))
      go true more = more
      go false more = record_numbers pictures a

-- ---- the call

module _ (list : List Actor) (frame masks pictures : List ℕ) (w h n : ℕ) where
  abbrev many : Bool
  many = ltb 32 (length list)

  abbrev sizes : Bool
  sizes = sizes_fit w h n

  abbrev long : Bool
  long = leb (w * h) (length frame) && leb (mask_bytes w h n) (length masks)

  abbrev bad : ℕ
  bad = first_bad (length pictures) list

  abbrev Fits : Type 0
  Fits = FrameFits (length frame) (length masks) w h n

  chain : number_in list frame masks pictures w h n ≡ cond many 18 (cond sizes (cond long bad 4) 3)
  chain = number-chain list (length frame) (length masks) (length pictures) w h n

  long-enough : (long ≡ true) ↔ ((w * h ≤ length frame) × (mask_bytes w h n ≤ length masks))
  long-enough =
      both_hold (leb (w * h) (length frame)) (leb (mask_bytes w h n) (length masks))
      then both_ways (up_to (w * h) (length frame)) (up_to (mask_bytes w h n) (length masks))

  too_short : (long ≡ false) ↔ ((length frame < w * h) ⊎ (length masks < mask_bytes w h n))
  too_short =
      one_fails (leb (w * h) (length frame)) (leb (mask_bytes w h n) (length masks))
      then either_way (not-up_to (w * h) (length frame)) (not-up_to (mask_bytes w h n) (length masks))

  pub cast_zero : (number_in list frame masks pictures w h n ≡ 0)
      ↔ ((length list ≤ 32) × Fits × ((i : ℕ) (none : Actor) → i < length list → RecordFits (length pictures) (get_or list i none)))
  cast_zero =
      accepted-exactly list (length frame) (length masks) (length pictures) w h n
      then (
        λ (is : Accepted list (length frame) (length masks) (length pictures) w h n).
            (is.few, (is.sizes, is.long, is.planes), (bad_zero (length pictures) list).0 is.right),
        λ (few, (fit, a, b), right). record { few = few; sizes = fit; long = a; planes = b; right = (bad_zero (length pictures) list).1 right },
      )

  -- a record's number, where the frame and the planes are right
  of_record : {A : Type 0} (m : ℕ) → (bad ≡ m) ↔ A → ((sizes ≡ true) × ((long ≡ true) × (bad ≡ m))) ↔ (Fits × A)
  of_record m (f, g) = (
    λ (fit, (enough, is)). let (a, b) = long-enough.0 enough in ((fit, a, b), f is),
    λ ((fit, a, b), is). (fit, (long-enough.1 (a, b), g is)),
  )

  pub cast_three : (number_in list frame masks pictures w h n ≡ 3)
      ↔ ((length list ≤ 32) × ((sizes ≡ false) ⊎ (Fits × FirstBad (length pictures) list (λ a. OutOfPicture a.width a.height))))
  cast_three =
      renamed 3 chain
      then after_holds many 18 _ 3 (λ e. omega arith)
      then both_ways (not-below 32 (length list))
      (fails_or sizes _ 3
      then either_way same (both_ways same (after_fails long bad 4 3 (λ e. omega arith)) then of_record 3 (bad_three (length pictures) list)))

  pub cast_four : (number_in list frame masks pictures w h n ≡ 4)
      ↔ ((length list ≤ 32) × (((sizes ≡ true) × ((length frame < w * h) ⊎ (length masks < mask_bytes w h n)))
      ⊎ (Fits × FirstBad (length pictures) list (λ a. (OutOfPicture a.width a.height → ⊥) × (length pictures < picture_end a)))))
  cast_four =
      renamed 4 chain
      then after_holds many 18 _ 4 (λ e. omega arith)
      then both_ways (not-below 32 (length list))
      (after_fails sizes _ 3 4 (λ e. omega arith)
      then both_ways same (fails_or long bad 4)
      then shared
      then either_way (both_ways same too_short) (of_record 4 (bad_four (length pictures) list)))

  after : (t q : Bool) (b : ℕ) → Among2 3 4 b → Among2 3 4 (cond t (cond q b 4) 3)
  after false q b is = inr (inl refl)
  after true false b is = inr (inr refl)
  after true true b is = is

  after_numbers : Among2 3 4 (cond sizes (cond long bad 4) 3)
  after_numbers = after sizes long bad (bad_numbers (length pictures) list)

  pub cast_eighteen : (number_in list frame masks pictures w h n ≡ 18) ↔ (32 < length list)
  cast_eighteen = renamed 18 chain then holds many 18 _ (not-eighteen _ after_numbers) then below 32 (length list)
    where
      not-eighteen : (m : ℕ) → Among2 3 4 m → m ≡ 18 → ⊥
      not-eighteen m (inl e) is = omega (arith, e, is)
      not-eighteen m (inr (inl e)) is = omega (arith, e, is)
      not-eighteen m (inr (inr e)) is = omega (arith, e, is)

  pub cast_numbers : Among3 3 4 18 (number_in list frame masks pictures w h n)
  cast_numbers = subst (Among3 3 4 18) (sym chain) (go many _ after_numbers)
    where
      go : (t : Bool) (m : ℕ) → Among2 3 4 m → Among3 3 4 18 (cond t 18 m)
      go true m is = inr (inr (inr refl))
      go false m (inl e) = inl e
      go false m (inr (inl e)) = inr (inl e)
      go false m (inr (inr e)) = inr (inr (inl e))
