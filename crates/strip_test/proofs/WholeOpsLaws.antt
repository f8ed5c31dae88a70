-- Laws of the whole operations ahead: the outcome goes on past the operations that are counted.
use Rattle.std.proofs.Common.{◌≡◌, refl, sym, ap, ◌∙◌, Bool, true, false, cond, List, [], ◌∷◌, ◌++◌, ℕ, zero, suc, ◌+◌, ◌*◌, ◌≤◌, arith, eqb, length, drop, drop-drop, Result, Err}
use Rattle.bits.specs.Bits.{got, bit_value, below, pull}
use Rattle.strip.specs.Strip.{plus, minus, Move, refuse, go, index_op, run_op, op_of, measured}
use Rattle.strip_test.specs.Outcome.{outcome}
use Rattle.strip_test.specs.WholeOps.{Row, nothing, after, three_bits, whole_ops, reach}
use Rattle.strip.proofs.StripLaws.{measured-fits}

-- a number whose bits are there
pull-enough : (n : ℕ) (l : List Bool) → n ≤ length l → (v : ℕ) × (pull n l ≡ got v (drop n l))
pull-enough zero l h = (0, refl)
pull-enough (suc n) [] h = absurd (omega arith)
pull-enough (suc n) (b ∷ l) h =
    let r = pull-enough n l (omega arith) in
    (bit_value b + 2 * r.0, ap (below b) r.1)

-- ---- one operation that gives one pixel

module _ (second : Bool) (w n : ℕ) where
  outcome-one : (l l' : List Bool) (c s : ℕ) → op_of second w 0 0 l ≡ go 0 c s l' → outcome second w (suc n) 0 l ≡ outcome second w n 0 l'
  unfolding outcome
  outcome-one l l' c s e =
      ap (λ (m : Move). elim m as (λ _. Result (Unit {0}) ℕ) [ refuse r ↦ Err r | go left' c' s' k ↦ outcome second w n left' k ])
      (ap (measured n) e ∙ measured-fits n 0 c s l' (omega arith))

  outcome_keep : (l : List Bool) → outcome second w (suc n) 0 (false ∷ l) ≡ outcome second w n 0 l
  outcome_keep l = outcome-one (false ∷ l) l 0 0 refl

  outcome-index : (l : List Bool) → w ≤ length l → outcome second w (suc n) 0 (true ∷ false ∷ l) ≡ outcome second w n 0 (drop w l)
  outcome-index l h = let r = pull-enough w l h in outcome-one (true ∷ false ∷ l) (drop w l) r.0 1 (ap index_op r.1)

outcome-walk : (w n : ℕ) (a : Bool) (l : List Bool) → outcome false w (suc n) 0 (true ∷ true ∷ a ∷ l) ≡ outcome false w n 0 l
outcome-walk w n false l = outcome-one false w n (true ∷ true ∷ false ∷ l) l _ _ refl
outcome-walk w n true l = outcome-one false w n (true ∷ true ∷ true ∷ l) l _ _ refl

outcome_change : (w n : ℕ) (a b c : Bool) (l : List Bool) → eqb (three_bits a b c) 4 ≡ false
    → outcome true w (suc n) 0 (true ∷ true ∷ a ∷ b ∷ c ∷ l) ≡ outcome true w n 0 l
outcome_change w n a b c l e =
    let new = minus (plus 0 (three_bits a b c)) 4 in
    outcome-one true w n (true ∷ true ∷ a ∷ b ∷ c ∷ l) l new 0 (ap (λ (t : Bool). cond t (run_op 0 0 (pull 8 l)) (go 0 new 0 l)) e)

-- ---- as many as are counted

module _ (second : Bool) (w : ℕ) where
  -- what is shown of the bits l, with the bits t after them
  abbrev Passes : List Bool → Row → List Bool → Type 0
  Passes l r t = (k : ℕ) → reach w r ≤ length (l ++ t) → outcome second w (r.pixels + k) 0 (l ++ t) ≡ outcome second w k 0 (drop (reach w r) (l ++ t))

  passes_none : (l t : List Bool) → Passes l nothing t
  passes_none l t k h =
      let z : 0 + 0 * (2 + w) ≡ 0 = omega arith in
      let y : 0 + k ≡ k = omega arith in
      λ i. outcome second w (y i) 0 (drop (sym z i) (l ++ t))

  -- an operation of n bits in front
  passes-after : (n : ℕ) (r : Row) (l m t : List Bool) → drop n (l ++ t) ≡ m ++ t → length (l ++ t) ≡ n + length (m ++ t)
      → ((k : ℕ) → outcome second w (suc k) 0 (l ++ t) ≡ outcome second w k 0 (m ++ t)) → Passes m r t → Passes l (after n r) t
  passes-after n r l m t e f one go_on k h =
      let y : suc r.pixels + k ≡ suc (r.pixels + k) = omega arith in
      let x = r.index * (2 + w) in
      let z : n + r.bits + x ≡ n + (r.bits + x) = omega arith in
      ap (λ (j : ℕ). outcome second w j 0 (l ++ t)) y
      ∙ one (r.pixels + k)
      ∙ go_on k (omega (arith, h, f))
      ∙ ap (outcome second w k 0) (ap (drop (reach w r)) (sym e) ∙ drop-drop (reach w r) n (l ++ t) ∙ ap (λ (j : ℕ). drop j (l ++ t)) (sym z))

pub ops_skipped : (second : Bool) (w : ℕ) (l t : List Bool) → Passes second w l (whole_ops second l) t
unfolding whole_ops
ops_skipped second w [] t = passes_none second w [] t
ops_skipped second w (false ∷ l) t =
    passes-after second w 1 (whole_ops second l) (false ∷ l) l t refl (omega arith) (λ k. outcome_keep second w k (l ++ t)) (ops_skipped second w l t)
ops_skipped second w (true ∷ []) t = passes_none second w (true ∷ []) t
ops_skipped second w (true ∷ false ∷ l) t = λ k h.
    let y : 1 + k ≡ suc k = omega arith in
    let z : 0 + 1 * (2 + w) ≡ suc (suc w) = omega arith in
    ap (λ (j : ℕ). outcome second w j 0 (true ∷ false ∷ (l ++ t))) y
    ∙ outcome-index second w k (l ++ t) (omega arith)
    ∙ ap (λ (j : ℕ). outcome second w k 0 (drop j (true ∷ false ∷ (l ++ t)))) (sym z)
ops_skipped false w (true ∷ true ∷ []) t = passes_none false w (true ∷ true ∷ []) t
ops_skipped false w (true ∷ true ∷ a ∷ l) t =
    passes-after false w 3 (whole_ops false l) (true ∷ true ∷ a ∷ l) l t refl (omega arith) (λ k. outcome-walk w k a (l ++ t)) (ops_skipped false w l t)
ops_skipped true w (true ∷ true ∷ []) t = passes_none true w (true ∷ true ∷ []) t
ops_skipped true w (true ∷ true ∷ a ∷ []) t = passes_none true w (true ∷ true ∷ a ∷ []) t
ops_skipped true w (true ∷ true ∷ a ∷ b ∷ []) t = passes_none true w (true ∷ true ∷ a ∷ b ∷ []) t
ops_skipped true w (true ∷ true ∷ a ∷ b ∷ c ∷ l) t = go_on (ops_skipped true w l t) (eqb (three_bits a b c) 4) refl
  where
    go_on : Passes true w l (whole_ops true l) t → (q : Bool) → eqb (three_bits a b c) 4 ≡ q
        → Passes true w (true ∷ true ∷ a ∷ b ∷ c ∷ l) (cond q nothing (after 5 (whole_ops true l))) t
    go_on again true e = passes_none true w (true ∷ true ∷ a ∷ b ∷ c ∷ l) t
    go_on again false e =
        passes-after true w 5 (whole_ops true l) (true ∷ true ∷ a ∷ b ∷ c ∷ l) l t refl (omega arith) (λ k. outcome_change w k a b c (l ++ t) e) again
