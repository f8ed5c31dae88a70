-- When a chain of tests gives a number: `cond t x a` gives a where the test fails, and `cond t a x` where it holds. Each law says so both ways.
use Rattle.std.proofs.Common.{◌≡◌, refl, sym, ap, ◌∙◌, Bool, true, false, cond, not, ◌&&◌, ◌||◌, true≢false, ◌⊎◌, inl, inr, ◌↔◌, ℕ, ◌≤◌, ◌<◌, ltb-true, ltb-false, leb-true, leb-false, lt-ltb, le-ltb, le-leb, ne_eqb, ltb, leb, eqb}
use mathlib.Core.Bool.{false≢true}
use borrow.Author.Tests.{eqb-false, not-false, lt-leb}

-- ---- a test that gives a where it fails

module _ (t : Bool) (x a : ℕ) where
  pub fails : (x ≡ a → ⊥) → (cond t x a ≡ a) ↔ (t ≡ false)
  fails other = (there t, back t)
    where
      there : (q : Bool) → cond q x a ≡ a → q ≡ false
      there true e = absurd (other e)
      there false e = refl

      back : (q : Bool) → q ≡ false → cond q x a ≡ a
      back true e = absurd (true≢false e)
      back false e = refl

  pub after_fails : (m : ℕ) → (a ≡ m → ⊥) → (cond t x a ≡ m) ↔ ((t ≡ true) × (x ≡ m))
  after_fails m other = (there t, back t)
    where
      there : (q : Bool) → cond q x a ≡ m → (q ≡ true) × (x ≡ m)
      there true e = (refl, e)
      there false e = absurd (other e)

      back : (q : Bool) → (q ≡ true) × (x ≡ m) → cond q x a ≡ m
      back true (e, f) = f
      back false (e, f) = absurd (false≢true e)

  -- or what comes after it gives a too
  pub fails_or : (cond t x a ≡ a) ↔ ((t ≡ false) ⊎ ((t ≡ true) × (x ≡ a)))
  fails_or = (there t, back t)
    where
      there : (q : Bool) → cond q x a ≡ a → (q ≡ false) ⊎ ((q ≡ true) × (x ≡ a))
      there true e = inr (refl, e)
      there false e = inl refl

      back : (q : Bool) → (q ≡ false) ⊎ ((q ≡ true) × (x ≡ a)) → cond q x a ≡ a
      back true (inl e) = absurd (true≢false e)
      back true (inr (e, f)) = f
      back false e = refl

-- neither way gives m
pub apart : (t : Bool) (x a m : ℕ) → (x ≡ m → ⊥) → (a ≡ m → ⊥) → cond t x a ≡ m → ⊥
apart true x a m p q e = p e
apart false x a m p q e = q e

-- ---- a test that gives a where it holds

module _ (t : Bool) (a x : ℕ) where
  pub holds : (x ≡ a → ⊥) → (cond t a x ≡ a) ↔ (t ≡ true)
  holds other = (there t, back t)
    where
      there : (q : Bool) → cond q a x ≡ a → q ≡ true
      there true e = refl
      there false e = absurd (other e)

      back : (q : Bool) → q ≡ true → cond q a x ≡ a
      back true e = refl
      back false e = absurd (false≢true e)

  pub after_holds : (m : ℕ) → (a ≡ m → ⊥) → (cond t a x ≡ m) ↔ ((t ≡ false) × (x ≡ m))
  after_holds m other = (there t, back t)
    where
      there : (q : Bool) → cond q a x ≡ m → (q ≡ false) × (x ≡ m)
      there true e = absurd (other e)
      there false e = (refl, e)

      back : (q : Bool) → (q ≡ false) × (x ≡ m) → cond q a x ≡ m
      back true (e, f) = absurd (true≢false e)
      back false (e, f) = f

pub cond-not : (t : Bool) (x a : ℕ) → cond (not t) a x ≡ cond t x a
cond-not true x a = refl
cond-not false x a = refl

-- a number of what a test gives
pub through : {A : Type 0} (f : A → ℕ) (t : Bool) (a b : A) → f (cond t a b) ≡ cond t (f a) (f b)
through f true a b = refl
through f false a b = refl

-- two tests that give the same number
pub either_holds : (t q : Bool) (a x : ℕ) → (x ≡ a → ⊥) → (cond t a (cond q a x) ≡ a) ↔ ((t ≡ true) ⊎ (q ≡ true))
either_holds t q a x other = (there t q, back t q)
  where
    there : (t q : Bool) → cond t a (cond q a x) ≡ a → (t ≡ true) ⊎ (q ≡ true)
    there true q e = inl refl
    there false true e = inr refl
    there false false e = absurd (other e)

    back : (t q : Bool) → (t ≡ true) ⊎ (q ≡ true) → cond t a (cond q a x) ≡ a
    back true q e = refl
    back false true e = refl
    back false false (inl e) = absurd (false≢true e)
    back false false (inr e) = absurd (false≢true e)

-- ---- tests on numbers, and two tests together

pub below : (a b : ℕ) → (ltb a b ≡ true) ↔ (a < b)
below a b = (ltb-true a b, lt-ltb a b)

pub not-below : (a b : ℕ) → (ltb a b ≡ false) ↔ (b ≤ a)
not-below a b = (ltb-false a b, le-ltb a b)

pub up_to : (a b : ℕ) → (leb a b ≡ true) ↔ (a ≤ b)
up_to a b = (leb-true a b, le-leb a b)

pub not-up_to : (a b : ℕ) → (leb a b ≡ false) ↔ (b < a)
not-up_to a b = (leb-false a b, lt-leb a b)

pub differs : (a b : ℕ) → (eqb a b ≡ false) ↔ (a ≡ b → ⊥)
differs a b = (eqb-false a b, ne_eqb a b)

pub both_hold : (a b : Bool) → ((a && b) ≡ true) ↔ ((a ≡ true) × (b ≡ true))
both_hold a b = (there a, back a)
  where
    there : (q : Bool) → (q && b) ≡ true → (q ≡ true) × (b ≡ true)
    there true e = (refl, e)
    there false e = absurd (false≢true e)

    back : (q : Bool) → (q ≡ true) × (b ≡ true) → (q && b) ≡ true
    back true (e, f) = f
    back false (e, f) = absurd (false≢true e)

pub one_fails : (a b : Bool) → ((a && b) ≡ false) ↔ ((a ≡ false) ⊎ (b ≡ false))
one_fails a b = (there a, back a)
  where
    there : (q : Bool) → (q && b) ≡ false → (q ≡ false) ⊎ (b ≡ false)
    there true e = inr e
    there false e = inl refl

    back : (q : Bool) → (q ≡ false) ⊎ (b ≡ false) → (q && b) ≡ false
    back true (inl e) = absurd (true≢false e)
    back true (inr e) = e
    back false e = refl

pub one_holds : (a b : Bool) → ((a || b) ≡ true) ↔ ((a ≡ true) ⊎ (b ≡ true))
one_holds a b = (there a, back a)
  where
    there : (q : Bool) → (q || b) ≡ true → (q ≡ true) ⊎ (b ≡ true)
    there true e = inl refl
    there false e = inr e

    back : (q : Bool) → (q ≡ true) ⊎ (b ≡ true) → (q || b) ≡ true
    back true e = refl
    back false (inl e) = absurd (false≢true e)
    back false (inr e) = e

pub none-holds : (a b : Bool) → ((a || b) ≡ false) ↔ ((a ≡ false) × (b ≡ false))
none-holds a b = (there a, back a)
  where
    there : (q : Bool) → (q || b) ≡ false → (q ≡ false) × (b ≡ false)
    there true e = absurd (true≢false e)
    there false e = (refl, e)

    back : (q : Bool) → (q ≡ false) × (b ≡ false) → (q || b) ≡ false
    back true (e, f) = absurd (true≢false e)
    back false (e, f) = f

pub negated : (a : Bool) → (not a ≡ false) ↔ (a ≡ true)
negated a = (not-false a, ap not)

-- ---- putting equivalences together

pub ◌then◌ : {A B C : Type 0} → A ↔ B → B ↔ C → A ↔ C
(f, g) then (h, k) = (λ a. h (f a), λ c. g (k c))

infixr 2 ◌then◌
pub either_way : {A B C D : Type 0} → A ↔ C → B ↔ D → (A ⊎ B) ↔ (C ⊎ D)
either_way {A} {B} {C} {D} (f, g) (h, k) = (there, back)
  where
    there : A ⊎ B → C ⊎ D
    there (inl a) = inl (f a)
    there (inr b) = inr (h b)

    back : C ⊎ D → A ⊎ B
    back (inl c) = inl (g c)
    back (inr d) = inr (k d)

pub both_ways : {A B C D : Type 0} → A ↔ C → B ↔ D → (A × B) ↔ (C × D)
both_ways (f, g) (h, k) = (λ (a, b). (f a, h b), λ (c, d). (g c, k d))

-- a test fails, or one more behind it
pub or_fails : {A B : Type 0} (a b : Bool) → (a ≡ false) ↔ A → (b ≡ false) ↔ B → ((a && b) ≡ false) ↔ (A ⊎ B)
or_fails a b p q = one_fails a b then either_way p q

-- a test holds exactly where what makes it fail isn't so
pub unless : {A : Type 0} (t : Bool) → (t ≡ false) ↔ A → (t ≡ true) ↔ (A → ⊥)
unless {A} t (f, g) = (λ is a. true≢false (sym is ∙ g a), back t f)
  where
    back : (q : Bool) → (q ≡ false → A) → (A → ⊥) → q ≡ true
    back true h none = refl
    back false h none = absurd (none (h refl))

-- three in a row
pub flat : {A B C : Type 0} → (A × (B × C)) ↔ (A × B × C)
flat = (λ x. (x.0, x.1.0, x.1.1), λ x. (x.0, (x.1, x.2)))

pub flat_sum : {A B C : Type 0} → ((A ⊎ B) ⊎ C) ↔ (A ⊎ (B ⊎ C))
flat_sum {A} {B} {C} = (there, back)
  where
    there : (A ⊎ B) ⊎ C → A ⊎ (B ⊎ C)
    there (inl (inl a)) = inl a
    there (inl (inr b)) = inr (inl b)
    there (inr c) = inr (inr c)

    back : A ⊎ (B ⊎ C) → (A ⊎ B) ⊎ C
    back (inl a) = inl (inl a)
    back (inr (inl b)) = inl (inr b)
    back (inr (inr c)) = inr c

-- a first and either of two
pub shared : {A B C : Type 0} → (A × (B ⊎ C)) ↔ ((A × B) ⊎ (A × C))
shared {A} {B} {C} = (there, back)
  where
    there : A × (B ⊎ C) → (A × B) ⊎ (A × C)
    there (a, inl b) = inl (a, b)
    there (a, inr c) = inr (a, c)

    back : (A × B) ⊎ (A × C) → A × (B ⊎ C)
    back (inl (a, b)) = (a, inl b)
    back (inr (a, c)) = (a, inr c)

pub swapped : {A B : Type 0} → (A ⊎ B) ↔ (B ⊎ A)
swapped {A} {B} = (there, back)
  where
    there : A ⊎ B → B ⊎ A
    there (inl a) = inr a
    there (inr b) = inl b

    back : B ⊎ A → A ⊎ B
    back (inl b) = inr b
    back (inr a) = inl a

pub same : {A : Type 0} → A ↔ A
same = (λ a. a, λ a. a)

-- equal numbers are the same number
pub renamed : {a b : ℕ} (m : ℕ) → a ≡ b → (a ≡ m) ↔ (b ≡ m)
renamed m e = (λ f. sym e ∙ f, λ f. e ∙ f)
