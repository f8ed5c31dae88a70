-- The number of a call as one chain of tests, and what it says of the records where none is bad, and of the first bad one. Assumes nothing.
use Rattle.std.proofs.Common.{Bool, true, false, cond, ◌&&◌, List, [], ◌∷◌, ◌↔◌, ◌≡◌, refl, sym, ap, ◌∙◌, ℕ, zero, suc, ◌+◌, ◌*◌, ◌≤◌, ◌<◌, le_of_suc-le-suc, not-suc-le-zero, arith, ltb-false, leb-true, le-ltb, le-leb, eqb-true, eq-eqb, ne_eqb, ltb, leb, eqb, length, get_or, drop, Err}
use borrow.Author.Tests.{eqb-false}
use Rattle.actor.specs.Sizes.{sizes_fit, mask_bytes}
use Rattle.actor.proofs.SizeLaws.{none-refused}
use Rattle.number.proofs.BoolLaws.{both}
use Rattle.refusal.specs.Answer.{answer_of}
use Rattle.refusal.proofs.AnswerLaws.{refused}
use Rattle.std.proofs.lemmas.List.{at_drop_more}
use Rattle.cast.specs.declared.Actor.{Actor}
use Rattle.cast.specs.Order.{none}
use Rattle.cast.specs.Sort.{Perm, empty, under, swap, chain}
use Rattle.cast.specs.Call.{record_number, first_bad, frame_number, cast_number}

-- "18 …, then 3 and 4 for frame and planes, then those of the first bad record"
pub number-chain : (l : List Actor) (frame masks pictures w h n : ℕ)
    → cast_number l frame masks pictures w h n
    ≡ cond (ltb 32 (length l)) 18 (cond (sizes_fit w h n) (cond (leb (w * h) frame && leb (mask_bytes w h n) masks) (first_bad pictures l) 4) 3)
unfolding cast_number frame_number
number-chain l frame masks pictures w h n =
    ap (cond (ltb 32 (length l)) 18) (on (sizes_fit w h n) (leb (w * h) frame && leb (mask_bytes w h n) masks) (first_bad pictures l))
  where
    on : (a b : Bool) (rest : ℕ) → cond (eqb (cond a (cond b 0 4) 3) 0) rest (cond a (cond b 0 4) 3) ≡ cond a (cond b rest 4) 3
    on true true rest = refl
    on true false rest = refl
    on false b rest = refl

-- an accepted call: at most 32 records, "frame and planes" right, and no record bad
pub record Accepted (l : List Actor) (frame masks pictures w h n : ℕ) : Type 0 where
  pub few : length l ≤ 32
  pub sizes : sizes_fit w h n ≡ true
  pub long : w * h ≤ frame
  pub planes : mask_bytes w h n ≤ masks
  pub right : first_bad pictures l ≡ 0

module _ (l : List Actor) (frame masks pictures w h n : ℕ) where
  pub accepted-exactly : (cast_number l frame masks pictures w h n ≡ 0) ↔ Accepted l frame masks pictures w h n
  accepted-exactly = (there, back)
    where
      not_many : (t : Bool) (rest : ℕ) → cond t 18 rest ≡ 0 → (t ≡ false) × (rest ≡ 0)
      not_many true rest e = absurd (omega (arith, e))
      not_many false rest e = (refl, e)

      there : cast_number l frame masks pictures w h n ≡ 0 → Accepted l frame masks pictures w h n
      there e =
          let (short, rest) = not_many _ _ (sym (number-chain l frame masks pictures w h n) ∙ e) in
          let sized = none-refused (sizes_fit w h n) _ _ rest in
          let lent = none-refused (leb (w * h) frame && leb (mask_bytes w h n) masks) _ _ sized.1 in
          let enough = both (leb (w * h) frame) (leb (mask_bytes w h n) masks) lent.0 in
          record {
            few = ltb-false _ _ short;
            sizes = sized.0;
            long = leb-true _ _ enough.0;
            planes = leb-true _ _ enough.1;
            right = lent.1;
          }

      back : Accepted l frame masks pictures w h n → cast_number l frame masks pictures w h n ≡ 0
      back is =
          number-chain l frame masks pictures w h n
          ∙ rw (le-ltb 32 (length l) is.few, is.sizes, le-leb (w * h) frame is.long, le-leb (mask_bytes w h n) masks is.planes) is.right

-- the first record of a list of which P holds, with R of those before it
abbrev pub First : (R P : Actor → Type 0) → List Actor → Type 0
First R P l = (i : ℕ) × (i < length l) × ((j : ℕ) (none : Actor) → j < i → R (get_or l j none)) × ((none : Actor) → P (get_or l i none))

module _ (pictures : ℕ) where
  -- ---- no bad record
  pub right-first : (a : Actor) (l : List Actor) → first_bad pictures (a ∷ l) ≡ 0 → (record_number pictures a ≡ 0) × (first_bad pictures l ≡ 0)
  unfolding first_bad
  right-first a l = on (eqb (record_number pictures a) 0) refl
    where
      on : (t : Bool) → eqb (record_number pictures a) 0 ≡ t → cond t (first_bad pictures l) (record_number pictures a) ≡ 0
          → (record_number pictures a ≡ 0) × (first_bad pictures l ≡ 0)
      on true e is = (eqb-true _ _ e, is)
      on false e is = absurd (eqb-false _ _ e is)

  right-more : (a : Actor) (l : List Actor) → record_number pictures a ≡ 0 → first_bad pictures (a ∷ l) ≡ first_bad pictures l
  unfolding first_bad
  right-more a l is = rw (eq-eqb _ _ is)

  pub all_right : (l : List Actor) → (first_bad pictures l ≡ 0) ↔ ((i : ℕ) (none : Actor) → i < length l → record_number pictures (get_or l i none) ≡ 0)
  unfolding first_bad
  all_right l = (there l, back l)
    where
      there : (l : List Actor) → first_bad pictures l ≡ 0 → (i : ℕ) (none : Actor) → i < length l → record_number pictures (get_or l i none) ≡ 0
      there [] is i none lt = absurd (not-suc-le-zero lt)
      there (a ∷ l) is zero none lt = (right-first a l is).0
      there (a ∷ l) is (suc i) none lt = there l (right-first a l is).1 i none (le_of_suc-le-suc lt)

      back : (l : List Actor) → ((i : ℕ) (none : Actor) → i < length l → record_number pictures (get_or l i none) ≡ 0) → first_bad pictures l ≡ 0
      back [] f = refl
      back (a ∷ l) f = right-more a l (f 0 a (omega arith)) ∙ back l (λ i none lt. f (suc i) none (omega arith))

  -- a round of the test, at the record at i
  pub right_turn : (l : List Actor) (i : ℕ) → i < length l → record_number pictures (get_or l i none) ≡ 0
      → first_bad pictures (drop (i + 1) l) ≡ first_bad pictures (drop i l)
  right_turn l i within is = sym (at_drop_more (first_bad pictures) l i none within ∙ right-more (get_or l i none) (drop (i + 1) l) is)

  pub bad_turn : (l : List Actor) (i k : ℕ) → i < length l → Err k ≡ answer_of (record_number pictures (get_or l i none))
      → first_bad pictures (drop i l) ≡ k
  unfolding first_bad
  bad_turn l i k within e =
      let (is, some) = refused k (record_number pictures (get_or l i none)) e in
      at_drop_more (first_bad pictures) l i none within ∙ rw (ne_eqb _ _ some) is

  -- the same records in another order
  pub perm_right : {a b : List Actor} → Perm a b → first_bad pictures b ≡ 0 → first_bad pictures a ≡ 0
  perm_right empty is = is
  perm_right (under {x} {a} {b} p) is =
      let (here, more) = right-first x b is in
      right-more x a here ∙ perm_right p more
  perm_right (swap {x} {y} {a}) is =
      let (second, more) = right-first y (x ∷ a) is in
      let (one, none) = right-first x a more in
      right-more x (y ∷ a) one ∙ right-more y a second ∙ none
  perm_right (chain p q) is = perm_right p (perm_right q is)

  -- ---- the first bad one, by its number
  module _ (m : ℕ) (some : m ≡ 0 → ⊥) where
    abbrev Here : List Actor → Type 0
    Here l = First (λ a. record_number pictures a ≡ 0) (λ a. record_number pictures a ≡ m) l

    later : (a : Actor) (l : List Actor) → record_number pictures a ≡ 0 → Here l → Here (a ∷ l)
    later a l is (i, lt, before, here) = (suc i, omega arith, earlier, here)
      where
        earlier : (j : ℕ) (none : Actor) → j < suc i → record_number pictures (get_or (a ∷ l) j none) ≡ 0
        earlier zero none less = is
        earlier (suc j) none less = before j none (le_of_suc-le-suc less)

    on-first : (a : Actor) (l : List Actor) (t : Bool) → eqb (record_number pictures a) 0 ≡ t
        → cond t (first_bad pictures l) (record_number pictures a) ≡ m → (first_bad pictures l ≡ m → Here l) → Here (a ∷ l)
    on-first a l true e is f = later a l (eqb-true _ _ e) (f is)
    on-first a l false e is f = (0, omega arith, λ j none less. absurd (not-suc-le-zero less), λ none. is)

    there : (l : List Actor) → first_bad pictures l ≡ m → Here l
    unfolding first_bad
    there [] is = absurd (some (sym is))
    there (a ∷ l) is = on-first a l (eqb (record_number pictures a) 0) refl is (there l)

    back : (l : List Actor) → Here l → first_bad pictures l ≡ m
    unfolding first_bad
    back [] (i, lt, before, here) = absurd (not-suc-le-zero lt)
    back (a ∷ l) (zero, lt, before, here) = rw (ne_eqb (record_number pictures a) 0 (λ e. some (sym (here a) ∙ e))) (here a)
    back (a ∷ l) (suc i, lt, before, here) =
        right-more a l (before 0 a (omega arith))
        ∙ back l (i, le_of_suc-le-suc lt, λ j none less. before (suc j) none (omega arith), here)

    pub first-bad : (l : List Actor) → (first_bad pictures l ≡ m) ↔ First (λ a. record_number pictures a ≡ 0) (λ a. record_number pictures a ≡ m) l
    first-bad l = (there l, back l)
