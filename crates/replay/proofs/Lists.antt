-- Laws of shown lists: tests and what stays over one more entry. Assumes nothing.
use Rattle.std.proofs.Common.{ℕ, ◌+◌, ◌<◌, ◌≡◌, refl, sym, ap, ◌∙◌, Bool, true, false, cond, ◌||◌, List, [], ◌∷◌, ◌++◌, get_or, take, length, take-suc, add-one}
use Rattle.std.specs.List.{list_any}
use Rattle.scene.specs.declared.Entry.{Entry}
use Rattle.scene.specs.Steps.{some, without}
use Rattle.scene.proofs.Lists.{some-append, without-append}

pub or_false : (b : Bool) → (b || false) ≡ b
or_false true = refl
or_false false = refl

pub append-nil : (es : List Entry) → es ++ [] ≡ es
append-nil [] = refl
append-nil (e ∷ es) = ap (◌∷◌ e) (append-nil es)

pub any_is_some : (f : Entry → Bool) (es : List Entry) → list_any f es ≡ some f es
unfolding some
any_is_some f [] = refl
any_is_some f (e ∷ es) = ap (◌||◌ (f e)) (any_is_some f es)

-- ---- one more entry

pub some_more : (f : Entry → Bool) (l : List Entry) (i : ℕ) (d : Entry) (b : Bool) → i < length l → b ≡ some f (take i l)
    → (b || f (get_or l i d)) ≡ some f (take (i + 1) l)
unfolding some
some_more f l i d b h e =
    rw (add-one i, take-suc l i d h, some-append f (take i l) (get_or l i d ∷ []), or_false (f (get_or l i d)), e)

without-one : (b : Bool) (f : Entry → Bool) (e : Entry) (l : List Entry) → b ≡ f e → cond b l (l ++ e ∷ []) ≡ l ++ without f (e ∷ [])
unfolding without
without-one true f e l h = rw (← h) (sym (append-nil l))
without-one false f e l h = rw (← h)

pub without_more : (b : Bool) (f : Entry → Bool) (s : List Entry) (i : ℕ) (d : Entry) (r l : List Entry) → i < length s
    → r ≡ cond b l (l ++ get_or s i d ∷ []) → b ≡ f (get_or s i d) → l ≡ without f (take i s) → r ≡ without f (take (i + 1) s)
without_more b f s i d r l h e g k =
    e
    ∙ without-one b f (get_or s i d) l g
    ∙ rw (add-one i, take-suc s i d h, without-append f (take i s) (get_or s i d ∷ []), k)

-- tests that agree on every entry sift alike
pub without-same : (f g : Entry → Bool) (es : List Entry) → ((e : Entry) → f e ≡ g e) → without f es ≡ without g es
without-same f g es h = ap (λ (k : Entry → Bool). without k es) (λ i e. h e i)
