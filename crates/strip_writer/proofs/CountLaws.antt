-- Laws of the counts of rows, by places of the list.
use Rattle.std.proofs.Common.{◌≡◌, ℕ, zero, suc, ◌+◌, ◌<◌, ◌≤◌, Bool, true, false, cond, ◌&&◌, eqb, List, [], ◌∷◌, length, get_or, drop, sym, refl, ap, ◌∙◌, ap₂, add-zero, arith, drop_of_length-le, eq-eqb, ne_eqb}
use Rattle.plane.proofs.MaskLaws.{from_at}
use Rattle.strip_writer.specs.Rows.{run_length, literal_length, all_zero}

-- ---- runs

run_none : (m b : ℕ) → run_length m b [] ≡ 0
unfolding run_length
run_none zero b = refl
run_none (suc m) b = refl

run-cons : (m b x : ℕ) (t : List ℕ) → run_length (suc m) b (x ∷ t) ≡ cond (eqb x b) (suc (run_length m b t)) 0
unfolding run_length
run-cons m b x t = refl

run_other : (m b x : ℕ) (t : List ℕ) → (x ≡ b → ⊥) → run_length m b (x ∷ t) ≡ 0
unfolding run_length
run_other zero b x t e = refl
run_other (suc m) b x t e = rw (ne_eqb x b e)

module _ (whole m n b i : ℕ) (s : List ℕ) (so_far : whole ≡ n + run_length m b (drop i s)) where
  pub run-over : m ≡ 0 → n ≡ whole
  unfolding run_length
  run-over e = sym (so_far ∙ ap (λ (k : ℕ). n + run_length k b (drop i s)) e ∙ add-zero n)

  pub run_ends : length s ≤ i → n ≡ whole
  run_ends le = sym (so_far ∙ ap (λ (l : List ℕ). n + run_length m b l) (drop_of_length-le s le) ∙ ap (λ (k : ℕ). n + k) (run_none m b) ∙ add-zero n)

  pub run_breaks : i < length s → (get_or s i 0 ≡ b → ⊥) → n ≡ whole
  run_breaks h ne =
      sym (so_far ∙ ap (λ (l : List ℕ). n + run_length m b l) (from_at s i h) ∙ ap (λ (k : ℕ). n + k) (run_other m b (get_or s i 0) (drop (i + 1) s) ne)
      ∙ add-zero
      n)

  pub run-goes : (k : ℕ) → m ≡ suc k → i < length s → get_or s i 0 ≡ b → whole ≡ n + 1 + run_length k b (drop (i + 1) s)
  run-goes k e h eq =
      let one : run_length m b (drop i s) ≡ suc (run_length k b (drop (i + 1) s)) =
      ap₂ (λ (j : ℕ) (l : List ℕ). run_length j b l) e (from_at s i h) ∙ run-cons k b (get_or s i 0) (drop (i + 1) s) ∙ ap
      (λ (p : Bool). cond p (suc (run_length k b (drop (i + 1) s))) 0) (eq-eqb (get_or s i 0) b eq) in
      omega (arith, so_far)

-- ---- literals

literal_cons : (m x y : ℕ) (t : List ℕ) → literal_length (suc m) (x ∷ y ∷ t) ≡ cond (eqb x y) 0 (suc (literal_length m (y ∷ t)))
unfolding literal_length
literal_cons m x y t = refl

literal_one : (m x : ℕ) → literal_length (suc m) (x ∷ []) ≡ 1
unfolding literal_length
literal_one m x = refl

module _ (whole m n i : ℕ) (s : List ℕ) (so_far : whole ≡ n + literal_length m (drop i s)) where
  pub literal_over : m ≡ 0 → n ≡ whole
  unfolding literal_length
  literal_over e = sym (so_far ∙ ap (λ (k : ℕ). n + literal_length k (drop i s)) e ∙ add-zero n)

  module _ (k : ℕ) (e : m ≡ suc k) where
    pub literal_last : i < length s → length s ≤ i + 1 → n + 1 ≡ whole
    literal_last h le =
        sym
        (so_far
        ∙ ap₂ (λ (j : ℕ) (l : List ℕ). n + literal_length j l) e (from_at s i h ∙ ap (λ (l : List ℕ). get_or s i 0 ∷ l) (drop_of_length-le s le))
        ∙ ap (λ (j : ℕ). n + j) (literal_one k (get_or s i 0)))

    two_here : i + 1 < length s → literal_length m (drop i s) ≡ cond (eqb (get_or s i 0) (get_or s (i + 1) 0)) 0 (suc (literal_length k (drop (i + 1) s)))
    two_here h =
        ap₂ (λ (j : ℕ) (l : List ℕ). literal_length j l) e (from_at s i (omega arith) ∙ ap (λ (l : List ℕ). get_or s i 0 ∷ l) (from_at s (i + 1) h))
        ∙ literal_cons k (get_or s i 0) (get_or s (i + 1) 0) (drop (i + 1 + 1) s)
        ∙ ap (λ (l : List ℕ). cond (eqb (get_or s i 0) (get_or s (i + 1) 0)) 0 (suc (literal_length k l))) (sym (from_at s (i + 1) h))

    pub literal_pair : i + 1 < length s → get_or s i 0 ≡ get_or s (i + 1) 0 → n ≡ whole
    literal_pair h eq =
        sym (so_far ∙ ap (λ (j : ℕ). n + j) (two_here h ∙ ap (λ (p : Bool). cond p 0 (suc (literal_length k (drop (i + 1) s))))
        (eq-eqb (get_or s i 0) (get_or s (i + 1) 0) eq)) ∙ add-zero n)

    pub literal_goes : i + 1 < length s → (get_or s i 0 ≡ get_or s (i + 1) 0 → ⊥) → whole ≡ n + 1 + literal_length k (drop (i + 1) s)
    literal_goes h ne =
        let one : literal_length m (drop i s) ≡ suc (literal_length k (drop (i + 1) s)) =
        two_here h ∙ ap (λ (p : Bool). cond p 0 (suc (literal_length k (drop (i + 1) s)))) (ne_eqb (get_or s i 0) (get_or s (i + 1) 0) ne) in
        omega (arith, so_far)

-- ---- zeros

and_last : (p : Bool) → (p && true) ≡ p
and_last true = refl
and_last false = refl

and_assoc : (p q r : Bool) → (p && (q && r)) ≡ ((p && q) && r)
and_assoc true q r = refl
and_assoc false q r = refl

module _ (whole zero : Bool) (i : ℕ) (s : List ℕ) (so_far : whole ≡ (zero && all_zero (drop i s))) where
  pub zero-end : length s ≤ i → zero ≡ whole
  unfolding all_zero
  zero-end le = sym (so_far ∙ ap (λ (l : List ℕ). zero && all_zero l) (drop_of_length-le s le) ∙ and_last zero)

  pub zero_more : i < length s → whole ≡ ((zero && eqb (get_or s i 0) 0) && all_zero (drop (i + 1) s))
  unfolding all_zero
  zero_more h = so_far ∙ ap (λ (l : List ℕ). zero && all_zero l) (from_at s i h) ∙ and_assoc zero (eqb (get_or s i 0) 0) (all_zero (drop (i + 1) s))
