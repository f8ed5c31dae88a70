-- Laws of the operations of a strip of rows, and that a strip that is written reads back.
use Rattle.std.proofs.Common.{◌≡◌, ℕ, zero, suc, ◌+◌, ◌-◌, ◌/◌, ◌<◌, ◌≤◌, Bool, true, false, cond, ◌&&◌, eqb, leb, List, [], ◌∷◌, ◌++◌, length, take, drop, replicate, sym, refl, ap, ◌∙◌, subst, ap₂, zero-le, le_refl, not-suc-le-zero, suc-add, zero-add, sub-one, arith, length-append, length-drop, take-append-drop, length-take-le, eq-eqb, eqb-true, leb-false, leb-true}
use Rattle.strip.specs.Strip.{Strip, refused, values, onto, prepend}
use Rattle.plane.specs.Mask.{literals, copies, rows_of}
use Rattle.plane.proofs.MaskLaws.{asks_literals, asks_copies, rows_copies, rows_done}
use Rattle.strip.proofs.StripLaws.{prepend-none}
use Rattle.strip_writer.specs.Rows.{run_length, literal_length, op_rows, op_bytes, ops_bytes, all_zero, rows_body}

-- ---- counts

module _ (b : ℕ) where
  run_cases : (m x : ℕ) (t : List ℕ) (p : Bool) → eqb x b ≡ p → run_length (suc m) b (x ∷ t) ≡ cond p (suc (run_length m b t)) 0
  unfolding run_length
  run_cases m x t p e = ap (λ (q : Bool). cond q (suc (run_length m b t)) 0) e

  pub run-le : (m : ℕ) (l : List ℕ) → (run_length m b l ≤ m) × (run_length m b l ≤ length l)
  unfolding run_length
  run-le zero l = (zero-le, zero-le)
  run-le (suc m) [] = (zero-le, zero-le)
  run-le (suc m) (x ∷ t) = go (eqb x b) (run-le m t)
    where
      go : (p : Bool) → (run_length m b t ≤ m) × (run_length m b t ≤ length t) → (cond p (suc (run_length m b t)) 0 ≤ suc m) ×
          (cond p (suc (run_length m b t)) 0 ≤ suc (length t))
      go true h = (omega arith, omega arith)
      go false h = (zero-le, zero-le)

  pub run_take : (m : ℕ) (l : List ℕ) → take (run_length m b l) l ≡ replicate (run_length m b l) b
  unfolding run_length
  run_take zero l = refl
  run_take (suc m) [] = refl
  run_take (suc m) (x ∷ t) = go (eqb x b) refl (run_take m t)
    where
      go : (p : Bool) → eqb x b ≡ p → take (run_length m b t) t ≡ replicate (run_length m b t) b
          → take (cond p (suc (run_length m b t)) 0) (x ∷ t) ≡ replicate (cond p (suc (run_length m b t)) 0) b
      go true e h = ap₂ (λ (y : ℕ) (u : List ℕ). y ∷ u) (eqb-true x b e) h
      go false e h = refl

pub run_more : (m x : ℕ) (t : List ℕ) → run_length (suc m) x (x ∷ t) ≡ suc (run_length m x t)
run_more m x t = run_cases x m x t true (eq-eqb x x refl)

pub literal_le : (m : ℕ) (l : List ℕ) → (literal_length m l ≤ m) × (literal_length m l ≤ length l)
unfolding literal_length
literal_le zero l = (zero-le, zero-le)
literal_le (suc m) [] = (zero-le, zero-le)
literal_le (suc m) (x ∷ []) = (omega arith, le_refl 1)
literal_le (suc m) (x ∷ y ∷ t) = go (eqb x y) (literal_le m (y ∷ t))
  where
    go : (p : Bool) → (literal_length m (y ∷ t) ≤ m) × (literal_length m (y ∷ t) ≤ suc (length t)) → (cond p 0 (suc (literal_length m (y ∷ t))) ≤ suc m) ×
        (cond p 0 (suc (literal_length m (y ∷ t))) ≤ suc (suc (length t)))
    go true h = (zero-le, zero-le)
    go false h = (omega arith, omega arith)

-- where there is no pair, there is a row
pub literal_some : (m x : ℕ) (t : List ℕ) → run_length (suc (suc m)) x (x ∷ t) < 2 → 1 ≤ literal_length (suc (suc m)) (x ∷ t)
unfolding literal_length
literal_some m x [] h = le_refl 1
literal_some m x (y ∷ t) h = go (eqb x y) refl
  where
    go : (p : Bool) → eqb x y ≡ p → 1 ≤ cond p 0 (suc (literal_length (suc m) (y ∷ t)))
    go true e = absurd (omega (arith, run_more (suc m) x (y ∷ t), run_cases x m y t true (eq-eqb y x (sym (eqb-true x y e)))))
    go false e = omega arith

pub op_rows_cases : (x : ℕ) (t : List ℕ) (p : Bool) → leb 2 (run_length 127 x (x ∷ t)) ≡ p → op_rows x t ≡ cond p (run_length 127 x (x ∷ t))
    (literal_length 127 (x ∷ t))
unfolding op_rows
op_rows_cases x t p e = ap (λ (q : Bool). cond q (run_length 127 x (x ∷ t)) (literal_length 127 (x ∷ t))) e

pub op_bytes_cases : (x : ℕ) (t : List ℕ) (p : Bool) → leb 2 (run_length 127 x (x ∷ t)) ≡ p
    → op_bytes x t ≡ cond p ((0x80 + run_length 127 x (x ∷ t)) ∷ x ∷ []) (literal_length 127 (x ∷ t) ∷ take (literal_length 127 (x ∷ t)) (x ∷ t))
unfolding op_bytes
op_bytes_cases x t p e = ap (λ (q : Bool). cond q ((0x80 + run_length 127 x (x ∷ t)) ∷ x ∷ [])
    (literal_length 127 (x ∷ t) ∷ take (literal_length 127 (x ∷ t)) (x ∷ t))) e

pub record RowsBrought (x : ℕ) (t : List ℕ) : Type 0 where
  pub some : 1 ≤ op_rows x t
  pub most : op_rows x t ≤ 127
  pub inside : op_rows x t ≤ suc (length t)

pub rows_brought : (x : ℕ) (t : List ℕ) → RowsBrought x t
rows_brought x t = go (leb 2 (run_length 127 x (x ∷ t))) refl
  where
    go : (p : Bool) → leb 2 (run_length 127 x (x ∷ t)) ≡ p → RowsBrought x t
    go true e =
        let r = op_rows_cases x t true e in
        let h = leb-true 2 (run_length 127 x (x ∷ t)) e in
        let k = run-le x 127 (x ∷ t) in
        record { some = omega arith; most = omega arith; inside = omega arith }
    go false e =
        let r = op_rows_cases x t false e in
        let h = literal_some 125 x t (leb-false 2 (run_length 127 x (x ∷ t)) e) in
        let k = literal_le 127 (x ∷ t) in
        record { some = omega arith; most = omega arith; inside = omega arith }

-- ---- the operations, one by one

pub row_ops_drop : (k : ℕ) (l : List ℕ) → ops_bytes k l ≡ ops_bytes 0 (drop k l)
unfolding ops_bytes
row_ops_drop zero l = refl
row_ops_drop (suc k) [] = refl
row_ops_drop (suc k) (x ∷ t) = row_ops_drop k t

drop_pred : (r x : ℕ) (t : List ℕ) → 1 ≤ r → drop (r - 1) t ≡ drop r (x ∷ t)
drop_pred zero x t h = absurd (not-suc-le-zero h)
drop_pred (suc r) x t h = rw sub-one

pub row_ops_step : (x : ℕ) (t : List ℕ) → ops_bytes 0 (x ∷ t) ≡ op_bytes x t ++ ops_bytes 0 (drop (op_rows x t) (x ∷ t))
unfolding ops_bytes
row_ops_step x t =
    ap (λ (u : List ℕ). op_bytes x t ++ u) (row_ops_drop (op_rows x t - 1) t ∙ ap (ops_bytes 0) (drop_pred (op_rows x t) x t (rows_brought x t).some))

-- ---- what is written is read back

onto-prepend : (x : ℕ) (xs : List ℕ) (s : Strip) → onto x (prepend xs s) ≡ prepend (x ∷ xs) s
onto-prepend x xs (refused n) = refl
onto-prepend x xs (values ys) = refl

lits_back : (xs u : List ℕ) (k : ℕ) → rows_of (xs ++ u) (length xs + k) (literals (length xs)) ≡ prepend xs (rows_of u k (literals 0))
unfolding rows_of
lits_back [] u k = prepend-none _ ∙ ap (λ (n : ℕ). prepend [] (rows_of u n (literals 0))) (zero-add k)
lits_back (x ∷ xs) u k =
    ap (λ (n : ℕ). rows_of (x ∷ (xs ++ u)) n (literals (suc (length xs)))) (suc-add (length xs) k)
    ∙ ap (onto x) (lits_back xs u k)
    ∙ onto-prepend x xs (rows_of u k (literals 0))

module _ (x : ℕ) (t u : List ℕ) where
  run_back : (r : ℕ) → 2 ≤ r → r ≤ 127 → r ≤ suc (length t) → take r (x ∷ t) ≡ replicate r x
      → rows_of ((0x80 + r) ∷ x ∷ u) (suc (length t)) (literals 0) ≡ prepend (take r (x ∷ t)) (rows_of u (suc (length t) - r) (literals 0))
  run_back r two most inside same =
      let back : (0x80 + r) - 0x80 ≡ r = omega arith in
      asks_copies ((0x80 + r) ∷ x ∷ u) (x ∷ u) (0x80 + r) refl (suc (length t)) (omega arith) (omega arith) (omega arith)
      ∙ ap (λ (n : ℕ). rows_of (x ∷ u) (suc (length t)) (copies n)) back
      ∙ rows_copies (x ∷ u) u x refl (suc (length t)) r (omega arith)
      ∙ ap (λ (q : List ℕ). prepend q (rows_of u (suc (length t) - r) (literals 0))) (sym same)

  literal_back : (r : ℕ) → 1 ≤ r → r ≤ 127 → r ≤ suc (length t)
      → rows_of (r ∷ (take r (x ∷ t) ++ u)) (suc (length t)) (literals 0) ≡ prepend (take r (x ∷ t)) (rows_of u (suc (length t) - r) (literals 0))
  literal_back r one most inside =
      let len : length (take r (x ∷ t)) ≡ r = length-take-le r (x ∷ t) inside in
      let all : suc (length t) ≡ length (take r (x ∷ t)) + (suc (length t) - r) = omega arith in
      asks_literals (r ∷ (take r (x ∷ t) ++ u)) (take r (x ∷ t) ++ u) r refl (suc (length t)) (omega arith) (omega arith) inside
      ∙ ap₂ (λ (n k : ℕ). rows_of (take r (x ∷ t) ++ u) n (literals k)) all (sym len)
      ∙ lits_back (take r (x ∷ t)) u (suc (length t) - r)

  row_op_back : rows_of (op_bytes x t ++ u) (suc (length t)) (literals 0) ≡ prepend (take (op_rows x t) (x ∷ t))
      (rows_of u (suc (length t) - op_rows x t) (literals 0))
  row_op_back = go (leb 2 (run_length 127 x (x ∷ t))) refl
    where
      whole : List ℕ → ℕ → Type 0
      whole p r = rows_of (p ++ u) (suc (length t)) (literals 0) ≡ prepend (take r (x ∷ t)) (rows_of u (suc (length t) - r) (literals 0))

      go : (p : Bool) → leb 2 (run_length 127 x (x ∷ t)) ≡ p → whole (op_bytes x t) (op_rows x t)
      go true e =
          let k = run-le x 127 (x ∷ t) in
          rw (op_bytes_cases x t true e, op_rows_cases x t true e) (run_back (run_length 127 x (x ∷ t)) (leb-true 2 (run_length 127 x (x ∷ t)) e) k.0 k.1
          (run_take x 127 (x ∷ t)))
      go false e =
          let k = literal_le 127 (x ∷ t) in
          let h = literal_some 125 x t (leb-false 2 (run_length 127 x (x ∷ t)) e) in
          rw (op_bytes_cases x t false e, op_rows_cases x t false e) (literal_back (literal_length 127 (x ∷ t)) h k.0 k.1)

-- The operations of every list of rows read back as those rows.
pub row_ops_back : (n : ℕ) (l : List ℕ) → length l ≤ n → rows_of (ops_bytes 0 l) (length l) (literals 0) ≡ values l
row_ops_back zero [] h = rows_done (ops_bytes 0 []) 0 (literals 0) refl
row_ops_back (suc n) [] h = rows_done (ops_bytes 0 []) 0 (literals 0) refl
row_ops_back zero (x ∷ t) h = absurd (not-suc-le-zero h)
row_ops_back (suc n) (x ∷ t) h =
    let r = op_rows x t in
    let k = rows_brought x t in
    let len : length (drop r (x ∷ t)) ≡ suc (length t) - r = length-drop r (x ∷ t) in
    ap (λ (b : List ℕ). rows_of b (suc (length t)) (literals 0)) (row_ops_step x t)
    ∙ row_op_back x t (ops_bytes 0 (drop r (x ∷ t)))
    ∙ ap (λ (m : ℕ). prepend (take r (x ∷ t)) (rows_of (ops_bytes 0 (drop r (x ∷ t))) m (literals 0))) (sym len)
    ∙ ap (prepend (take r (x ∷ t))) (row_ops_back n (drop r (x ∷ t)) (omega arith))
    ∙ ap values (take-append-drop r (x ∷ t))

-- rows that are all zero are so many zeros
pub zeros-all : (l : List ℕ) → all_zero l ≡ true → l ≡ replicate (length l) 0
unfolding all_zero
zeros-all [] e = refl
zeros-all (x ∷ t) e = go (eqb x 0) refl e (zeros-all t)
  where
    go : (p : Bool) → eqb x 0 ≡ p → (p && all_zero t) ≡ true → (all_zero t ≡ true → t ≡ replicate (length t) 0) → x ∷ t ≡ 0 ∷ replicate (length t) 0
    go true f g k = ap₂ (λ (y : ℕ) (u : List ℕ). y ∷ u) (eqb-true x 0 f) (k g)
    go false f g k = absurd (let z : ◌≡◌ {A = ℕ} 0 1 = cc in omega arith)

-- ---- how long a body is: a byte to a row, and one to each literal, as a literal and the run behind it are three rows or more

-- rows that begin with two equal ones
data Pair : List ℕ → Type 0 where
  pair : (x : ℕ) (t : List ℕ) → Pair (x ∷ x ∷ t)

run_pair : (x : ℕ) (t : List ℕ) → Pair (x ∷ t) → 2 ≤ run_length 127 x (x ∷ t)
run_pair x t (pair y u) = omega (arith, run_more 126 x (x ∷ u), run_more 125 x u)

-- a literal of j rows is as long as may be, or the last operation, or a run follows it
data LiteralEnds (m : ℕ) (l : List ℕ) (j : ℕ) : Type 0 where
  full : m ≤ j → LiteralEnds m l j
  last : length l ≤ j → LiteralEnds m l j
  run : Pair (drop j l) → LiteralEnds m l j

literal_ends : (m : ℕ) (l : List ℕ) → LiteralEnds m l (literal_length m l)
unfolding literal_length
literal_ends zero l = full zero-le
literal_ends (suc m) [] = last zero-le
literal_ends (suc m) (x ∷ []) = last (le_refl 1)
literal_ends (suc m) (x ∷ y ∷ t) = go (eqb x y) refl (literal_ends m (y ∷ t))
  where
    go : (p : Bool) → eqb x y ≡ p → LiteralEnds m (y ∷ t) (literal_length m (y ∷ t))
        → LiteralEnds (suc m) (x ∷ y ∷ t) (cond p 0 (suc (literal_length m (y ∷ t))))
    go true e k = run (subst (λ (z : ℕ). Pair (x ∷ z ∷ t)) (eqb-true x y e) (pair x t))
    go false e (full h) = full (omega arith)
    go false e (last h) = last (omega arith)
    go false e (run h) = run h

-- the operations of rows, and of rows that begin with a run
record Few (l : List ℕ) : Type 0 where
  pub any : length (ops_bytes 0 l) ≤ length l + (length l + 2) / 3
  pub from_pair : Pair l → length (ops_bytes 0 l) ≤ length l + length l / 3

module _ (x : ℕ) (t : List ℕ) where
  few-run : leb 2 (run_length 127 x (x ∷ t)) ≡ true → Few (drop (op_rows x t) (x ∷ t)) → Few (x ∷ t)
  few-run e f =
      let r = op_rows_cases x t true e in
      let h = leb-true 2 (run_length 127 x (x ∷ t)) e in
      let k = (rows_brought x t).inside in
      let len : length (drop (op_rows x t) (x ∷ t)) ≡ suc (length t) - op_rows x t = length-drop (op_rows x t) (x ∷ t) in
      let two = ap length (op_bytes_cases x t true e) in
      let step = ap length (row_ops_step x t) ∙ length-append (op_bytes x t) (ops_bytes 0 (drop (op_rows x t) (x ∷ t))) in
      let m = f.any in
      record { any = omega (arith, two, step); from_pair = λ q. omega (arith, two, step) }

  few_literal : leb 2 (run_length 127 x (x ∷ t)) ≡ false → Few (drop (op_rows x t) (x ∷ t)) → Few (x ∷ t)
  few_literal e f =
      let b = leb-false 2 (run_length 127 x (x ∷ t)) e in
      record { any = go (subst (LiteralEnds 127 (x ∷ t)) (sym r) (literal_ends 127 (x ∷ t))); from_pair = λ q. absurd (omega (arith, run_pair x t q)) }
    where
      r : op_rows x t ≡ literal_length 127 (x ∷ t)
      r = op_rows_cases x t false e

      bytes : length (op_bytes x t) ≡ 1 + op_rows x t
      bytes =
          let k = literal_le 127 (x ∷ t) in
          omega (arith, ap length (op_bytes_cases x t false e), length-take-le (literal_length 127 (x ∷ t)) (x ∷ t) k.1, r)

      step : length (ops_bytes 0 (x ∷ t)) ≡ length (op_bytes x t) + length (ops_bytes 0 (drop (op_rows x t) (x ∷ t)))
      step = ap length (row_ops_step x t) ∙ length-append (op_bytes x t) (ops_bytes 0 (drop (op_rows x t) (x ∷ t)))

      len : length (drop (op_rows x t) (x ∷ t)) ≡ suc (length t) - op_rows x t
      len = length-drop (op_rows x t) (x ∷ t)

      go : LiteralEnds 127 (x ∷ t) (op_rows x t) → length (ops_bytes 0 (x ∷ t)) ≤ suc (length t) + (suc (length t) + 2) / 3
      go (full h) = omega (arith, (rows_brought x t).inside, bytes, step, len, f.any)
      go (last h) = omega (arith, (rows_brought x t).inside, bytes, step, len, f.any)
      go (run h) = omega (arith, (rows_brought x t).inside, (rows_brought x t).some, bytes, step, len, f.from_pair h)

few : (n : ℕ) (l : List ℕ) → length l ≤ n → Few l
unfolding ops_bytes
few zero [] h = record { any = zero-le; from_pair = λ q. zero-le }
few (suc n) [] h = record { any = zero-le; from_pair = λ q. zero-le }
few zero (x ∷ t) h = absurd (not-suc-le-zero h)
few (suc n) (x ∷ t) h =
    let len : length (drop (op_rows x t) (x ∷ t)) ≡ suc (length t) - op_rows x t = length-drop (op_rows x t) (x ∷ t) in
    go (leb 2 (run_length 127 x (x ∷ t))) refl (few n (drop (op_rows x t) (x ∷ t)) (omega (arith, (rows_brought x t).some)))
  where
    go : (p : Bool) → leb 2 (run_length 127 x (x ∷ t)) ≡ p → Few (drop (op_rows x t) (x ∷ t)) → Few (x ∷ t)
    go true e f = few-run x t e f
    go false e f = few_literal x t e f

pub length_rows : (l : List ℕ) → length (rows_body l) ≤ length l + (length l + 2) / 3
unfolding rows_body
length_rows l = go (all_zero l)
  where
    go : (p : Bool) → length (cond p [] (ops_bytes 0 l)) ≤ length l + (length l + 2) / 3
    go true = zero-le
    go false = (few (length l) l (le_refl (length l))).any

-- what a body, or no body, says of the rows
pub data Back (body l : List ℕ) : Type 0 where
  none : body ≡ [] → l ≡ replicate (length l) 0 → Back body l
  some : 1 ≤ length body → rows_of body (length l) (literals 0) ≡ values l → Back body l

row_ops_some : (l : List ℕ) → 1 ≤ length l → 1 ≤ length (ops_bytes 0 l)
row_ops_some [] h = absurd (not-suc-le-zero h)
row_ops_some (x ∷ t) h =
    omega (arith, ap length (row_ops_step x t) ∙ length-append (op_bytes x t) (ops_bytes 0 (drop (op_rows x t) (x ∷ t))), row_op_some x t)
  where
    row_op_some : (x : ℕ) (t : List ℕ) → 1 ≤ length (op_bytes x t)
    row_op_some x t = go (leb 2 (run_length 127 x (x ∷ t))) refl
      where
        go : (p : Bool) → leb 2 (run_length 127 x (x ∷ t)) ≡ p → 1 ≤ length (op_bytes x t)
        go true e = rw (op_bytes_cases x t true e) (omega arith)
        go false e = rw (op_bytes_cases x t false e) (omega arith)

-- A strip of rows that is written reads back, for every height and content.
pub rows_back : (l : List ℕ) → 1 ≤ length l → Back (rows_body l) l
unfolding rows_body
rows_back l h = go (all_zero l) refl
  where
    go : (p : Bool) → all_zero l ≡ p → Back (cond p [] (ops_bytes 0 l)) l
    go true e = none refl (zeros-all l e)
    go false e = some (row_ops_some l h) (row_ops_back (length l) l (le_refl (length l)))
