-- Laws of shown lists: how long an array of entries is, and properties that every entry has. Assumes nothing.
use Rattle.std.proofs.Common.{ℕ, zero, suc, ◌<◌, ◌≡◌, refl, sym, ◌∙◌, Bool, true, false, cond, ◌||◌, List, [], ◌∷◌, ◌++◌, map, get_or, length, arith, not-suc-le-zero, le_of_suc-le-suc}
use lib.ListN.{length-map}
use Rattle.scene.specs.declared.Entry.{Entry}
use Rattle.scene.specs.Steps.{some, without}
use Rattle.stored.specs.Bytes.{All}

-- a list is as long as any map of it: the length of an array of structs, from what owning it tells
pub length_of_map : {X Y : Type 0} (f : X → Y) (l : List X) (n : ℕ) → length (map f l) ≡ n → length l ≡ n
length_of_map f l n e = sym (length-map l f) ∙ e

-- ---- every entry

pub all_append : (P : Entry → Type 0) (es : List Entry) (e : Entry) → All P es → P e → All P (es ++ e ∷ [])
all_append P [] e a p = (p, tt)
all_append P (f ∷ es) e a p = (a.0, all_append P es e a.1 p)

-- what is kept may use that it is kept
pub all_without : (P Q : Entry → Type 0) (f : Entry → Bool) (es : List Entry) → ((e : Entry) → f e ≡ false → P e → Q e) → All P es
    → All Q (without f es)
unfolding without
all_without P Q f [] h a = tt
all_without P Q f (e ∷ es) h a = go (f e) refl (all_without P Q f es h a.1)
  where
    go : (t : Bool) → f e ≡ t → All Q (without f es) → All Q (cond t (without f es) (e ∷ without f es))
    go true q r = r
    go false q r = (h e q a.0, r)

pub all_map : (P Q : Entry → Type 0) (es : List Entry) → ((e : Entry) → P e → Q e) → All P es → All Q es
all_map P Q [] h a = tt
all_map P Q (e ∷ es) h a = (h e a.0, all_map P Q es h a.1)

pub all_at : (P : Entry → Type 0) (es : List Entry) (i : ℕ) (d : Entry) → i < length es → All P es → P (get_or es i d)
all_at P [] i d h a = absurd (not-suc-le-zero h)
all_at P (e ∷ es) zero d h a = a.0
all_at P (e ∷ es) (suc i) d h a = all_at P es i d (le_of_suc-le-suc h) a.1

-- an entry that passes a test, among entries that all have a property, shows the property of what passes
pub some-all : (P : Entry → Type 0) (f : Entry → Bool) (X : Type 0) (es : List Entry) → ((e : Entry) → f e ≡ true → P e → X) → All P es
    → some f es ≡ true → X
unfolding some
some-all P f X [] h a e = absurd (not-true e)
  where
    not-true : false ≡ true → ⊥
    not-true q = let z : ◌≡◌ {A = ℕ} 0 1 = cc in omega arith
some-all P f X (x ∷ es) h a e = go (f x) refl e (λ r. some-all P f X es h a.1 r)
  where
    go : (t : Bool) → f x ≡ t → (t || some f es) ≡ true → (some f es ≡ true → X) → X
    go true q r k = h x q a.0
    go false q r k = k r
