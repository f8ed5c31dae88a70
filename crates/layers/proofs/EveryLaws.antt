-- Laws of a test at every number below n, and of a strip with no transparent pixel. Assumes nothing.
use Rattle.std.proofs.Common.{◌≡◌, refl, sym, ap, ◌∙◌, subst, Bool, true, false, not, ◌&&◌, List, ℕ, zero, suc, ◌+◌, ◌*◌, ◌/◌, ◌%◌, ◌<◌, add-one, arith, eqb, get_or, take, length, ◌≤◌, length-take, get_or-take}
use Rattle.std.specs.List.{IsAnyAnswer}
use mathlib.Core.Bool.{false≢true}
use mathlib.Core.Logic.{by_cases}
use native.Mathlib.Decide.{ℕ_discrete}
use Rattle.number.proofs.BoolLaws.{and_left, and_right}
use Rattle.scene.specs.Painting.{every}
use Rattle.layers.specs.Layer.{none_clear}

module _ (f : ℕ → Bool) where
  pub every_at : (n : ℕ) → every n f ≡ true → (i : ℕ) → i < n → f i ≡ true
  unfolding every
  every_at zero h i lt = absurd (omega arith)
  every_at (suc n) h i lt =
      by_cases (ℕ_discrete n i) (λ e. subst (λ (k : ℕ). f k ≡ true) e (and_left (f n) (every n f) h))
      (λ e. every_at n (and_right (f n) (every n f) h) i (omega arith))

  pub every_of : (n : ℕ) → ((i : ℕ) → i < n → f i ≡ true) → every n f ≡ true
  unfolding every
  every_of zero h = refl
  every_of (suc n) h = rw (h n (omega arith), every_of n (λ i lt. h i (omega arith)))

  pub every-not : (n i : ℕ) → i < n → f i ≡ false → false ≡ every n f
  every-not n i lt h = go (every n f) refl
    where
      go : (q : Bool) → every n f ≡ q → false ≡ q
      go true e = absurd (false≢true (sym h ∙ every_at n e i lt))
      go false e = refl

  pub every_more : (n : ℕ) → every n f ≡ true → f n ≡ true → every (n + 1) f ≡ true
  unfolding every
  every_more n h k = rw add-one (rw (k, h))

-- a test at every cell of n rows of 8 is a test at every number below 8n
pub every_rows : (n : ℕ) (f : ℕ → Bool) (g : ℕ → ℕ → Bool) → ((r c : ℕ) → r < n → c < 8 → f (8 * r + c) ≡ g r c)
    → every (8 * n) f ≡ every n (λ r. every 8 (λ c. g r c))
every_rows n f g same = go (every (8 * n) f) (every n (λ r. every 8 (λ c. g r c))) refl refl
  where
    go : (a b : Bool) → every (8 * n) f ≡ a → every n (λ r. every 8 (λ c. g r c)) ≡ b → a ≡ b
    go true true p q = refl
    go false false p q = refl
    go true false p q =
        sym (every_of (λ r. every 8 (λ c. g r c)) n
        (λ r lr. every_of (λ c. g r c) 8 (λ c lc. sym (same r c lr lc) ∙ every_at f (8 * n) p (8 * r + c) (omega arith))))
        ∙ q
    go false true p q =
        sym p
        ∙ every_of f (8 * n)
        (λ i lt.
        let split : 8 * (i / 8) + i % 8 ≡ i = omega arith in
        ap f (sym split) ∙ same (i / 8) (i % 8) (omega arith) (omega arith)
        ∙ every_at (λ c. g (i / 8) c) 8 (every_at (λ r. every 8 (λ c. g r c)) n q (i / 8) (omega arith)) (i % 8) (omega arith))

-- the test of a strip's pixels, one after the other
module _ (index : ℕ) (clear : Bool) (values : List ℕ) (n : ℕ) where
  abbrev pub shut : ℕ → Bool
  shut i = not (clear && eqb (get_or values i 0) index)

  pub clear_none : none_clear index clear values 0 ≡ true
  unfolding none_clear every
  clear_none = refl

  pub clear-found : (i : ℕ) → i < n → (clear && eqb (get_or values i 0) index) ≡ true → false ≡ none_clear index clear values n
  unfolding none_clear
  clear-found i lt h = every-not shut n i lt (ap not h)

  pub clear-more : (i : ℕ) → none_clear index clear values i ≡ true → (clear && eqb (get_or values i 0) index) ≡ false
      → none_clear index clear values (i + 1) ≡ true
  unfolding none_clear
  clear-more i so h = every_more shut i so (ap not h)

-- the test of a strip's first n pixels, as code makes it
module _ (index : ℕ) (values : List ℕ) (n : ℕ) (fits : n ≤ length values) where
  abbrev Held : Bool → Type 0
  Held held = IsAnyAnswer (λ y b. eqb y index ≡ b) (take n values) held

  abbrev shut_at : Bool → ℕ → Bool
  shut_at clear i = not (clear && eqb (get_or values i 0) index)

  pub clear_held : (held : Bool) → Held held → not held ≡ none_clear index true values n
  unfolding none_clear
  clear_held true (k, lt, at) =
      let below : k < n = omega (arith, length-take n values) in
      every-not (shut_at true) n k below (ap not (rw (get_or-take n values k 0 below) at (at 0)))
  clear_held false none =
      sym (every_of (shut_at true) n (λ i lt. ap not (rw (get_or-take n values i 0 lt) at (none i 0 (omega arith) (omega (arith, length-take n values))))))

  pub clear_shut : true ≡ none_clear index false values n
  unfolding none_clear
  clear_shut = sym (every_of (shut_at false) n (λ i lt. refl))

pub every_ext : (f g : ℕ → Bool) (n : ℕ) → ((i : ℕ) → i < n → f i ≡ g i) → every n f ≡ every n g
unfolding every
every_ext f g zero same = refl
every_ext f g (suc n) same = rw (same n (omega arith), every_ext f g n (λ i lt. same i (omega arith)))
