-- The laws of `upd`: its length, its elements, one after another, one store. Assumes nothing.
use Rattle.std.proofs.Common.{◌≡◌, refl, sym, ap, ap₂, ◌∙◌, List, [], ◌∷◌, cond, ℕ, zero, suc, ◌<◌, not-suc-le-zero, le_of_suc-le-suc, arith, eqb, length, get_or, set}
use lib.Dec.{eqb-suc-suc, eqb-zero-suc, eqb-suc-zero}
use Rattle.grid.specs.Grid.{upd}

pub length-upd : (f : ℕ → ℕ → ℕ) (l : List ℕ) → length (upd f l) ≡ length l
unfolding upd
length-upd f [] = refl
length-upd f (x ∷ xs) = ap suc (length-upd (λ i. f (suc i)) xs)

pub get_or-upd : (f : ℕ → ℕ → ℕ) (l : List ℕ) (i : ℕ) → i < length l → get_or (upd f l) i 0 ≡ f i (get_or l i 0)
unfolding upd
get_or-upd f [] i h = absurd (not-suc-le-zero h)
get_or-upd f (x ∷ xs) zero h = refl
get_or-upd f (x ∷ xs) (suc i) h = get_or-upd (λ k. f (suc k)) xs i (le_of_suc-le-suc h)

-- two that agree at l's elements
pub upd_ext : (f g : ℕ → ℕ → ℕ) (l : List ℕ) → ((i : ℕ) → i < length l → f i (get_or l i 0) ≡ g i (get_or l i 0)) → upd f l ≡ upd g l
unfolding upd
upd_ext f g [] h = refl
upd_ext f g (x ∷ xs) h = ap₂ ◌∷◌ (h 0 (omega arith)) (upd_ext (λ i. f (suc i)) (λ i. g (suc i)) xs (λ i k. h (suc i) (omega arith)))

-- one after another
pub upd-upd : (f g : ℕ → ℕ → ℕ) (l : List ℕ) → upd f (upd g l) ≡ upd (λ i o. f i (g i o)) l
unfolding upd
upd-upd f g [] = refl
upd-upd f g (x ∷ xs) = ap (◌∷◌ (f 0 (g 0 x))) (upd-upd (λ i. f (suc i)) (λ i. g (suc i)) xs)

-- nothing is changed
pub upd_id : (f : ℕ → ℕ → ℕ) (l : List ℕ) → ((i o : ℕ) → f i o ≡ o) → upd f l ≡ l
unfolding upd
upd_id f [] h = refl
upd_id f (x ∷ xs) h = ap₂ ◌∷◌ (h 0 x) (upd_id (λ i. f (suc i)) xs (λ i o. h (suc i) o))

-- one store
pub upd-set : (l : List ℕ) (j v : ℕ) → set l j v ≡ upd (λ i o. cond (eqb i j) v o) l
unfolding upd
upd-set [] j v = refl
upd-set (x ∷ xs) zero v = ap (◌∷◌ v) (sym (upd_id (λ i o. cond (eqb (suc i) 0) v o) xs (λ i o. rw eqb-suc-zero)))
upd-set (x ∷ xs) (suc j) v =
    ap₂ ◌∷◌ (rw eqb-zero-suc) (upd-set xs j v ∙ upd_ext (λ i o. cond (eqb i j) v o) (λ i o. cond (eqb (suc i) (suc j)) v o) xs (λ i k. rw eqb-suc-suc))

-- a store after a run
pub set-upd : (f g : ℕ → ℕ → ℕ) (l : List ℕ) (j v : ℕ) → ((i : ℕ) → i < length l → cond (eqb i j) v (f i (get_or l i 0)) ≡ g i (get_or l i 0))
    → set (upd f l) j v ≡ upd g l
set-upd f g l j v h = upd-set (upd f l) j v ∙ upd-upd (λ i o. cond (eqb i j) v o) f l ∙ upd_ext (λ i o. cond (eqb i j) v (f i o)) g l h

-- one run after another is one run
pub upd_then : (f g h : ℕ → ℕ → ℕ) (l px qx : List ℕ) → ((i o : ℕ) → g i (f i o) ≡ h i o) → px ≡ upd f l → qx ≡ upd g px → qx ≡ upd h l
upd_then f g h l px qx same p q = q ∙ ap (upd g) p ∙ upd-upd g f l ∙ upd_ext (λ i o. g i (f i o)) h l (λ i k. same i (get_or l i 0))
