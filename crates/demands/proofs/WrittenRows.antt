-- Rows over the front of a surface: a box as wide as its surface that is filled with given cells, and the rows of planes one after another.
use Rattle.std.proofs.Common.{◌≡◌, sym, ap, ◌∙◌, cond, List, ◌++◌, ℕ, zero, suc, ◌+◌, ◌-◌, ◌*◌, ◌/◌, ◌%◌, ◌≤◌, ◌<◌, zero-le, zero-mul, add-mul, mul_assoc, mul_comm, div-add-mod', div-lt_iff_lt-mul, arith, length, get_or, drop, length-append, length-drop, ext_get_or, get_or-append-add, get_or-drop}
use mathlib.Core.Logic.{by_cases}
use native.Mathlib.Decide.{dec_lt}
use lib.Arith.{digits_lt}
use lib.ListN.{get_or-append}
use Rattle.number.specs.Buffer.{over}
use Rattle.grid.specs.Grid.{upd, boxed}
use Rattle.grid.proofs.Upd.{length-upd, get_or-upd}
use Rattle.grid.proofs.Box.{within_yes, within-hi}
use Rattle.load.proofs.BoxLaws.{wide_box}
use Rattle.demands.specs.Written.{concat_to}

-- ---- over the front

module _ (xs old : List ℕ) (fits : length xs ≤ length old) where
  length_over : length (over xs old) ≡ length old
  unfolding over
  length_over = omega (arith, length-append xs (drop (length xs) old), length-drop (length xs) old)

  over-front : (i : ℕ) → i < length xs → get_or (over xs old) i 0 ≡ get_or xs i 0
  unfolding over
  over-front i lt = get_or-append xs (drop (length xs) old) 0 i lt

  over-past : (i : ℕ) → length xs ≤ i → get_or (over xs old) i 0 ≡ get_or old i 0
  unfolding over
  over-past i le =
      let place : i ≡ length xs + (i - length xs) = omega arith in
      ap (λ (k : ℕ). get_or (over xs old) k 0) place ∙ get_or-append-add xs (drop (length xs) old) (i - length xs) 0
      ∙ get_or-drop (length xs) old (i - length xs) 0 ∙ ap (λ (k : ℕ). get_or old k 0) (sym place)

-- a box of q rows of w cells at the top of a surface w wide
module _ (w q : ℕ) (f : ℕ → ℕ → ℕ) (xs old : List ℕ) (long : length xs ≡ q * w) (fits : q * w ≤ length old)
    (cells : (i : ℕ) → i < q * w → f (i % w) (i / w) ≡ get_or xs i 0) where
  abbrev g : ℕ → ℕ → ℕ → ℕ
  g x y o = f x y

  box_cell : (i : ℕ) → i < length old → get_or (upd (boxed w 0 0 w q g) old) i 0 ≡ get_or (over xs old) i 0
  box_cell i lt =
      let top : 0 * w ≡ 0 = zero-mul w in
      let row : i / w - 0 ≡ i / w = omega arith in
      let box = get_or-upd (boxed w 0 0 w q g) old i lt ∙ wide_box w 0 q g i (get_or old i 0) in
      by_cases (dec_lt i (q * w))
      (λ inside.
      box
      ∙ ap (λ t. cond t (f (i % w) (i / w - 0)) (get_or old i 0)) (within_yes (0 * w) (q * w) i (omega arith) (omega arith))
      ∙ ap (f (i % w)) row
      ∙ cells i inside
      ∙ sym (over-front xs old (omega arith) i (omega arith)))
      (λ past.
      box
      ∙ ap (λ t. cond t (f (i % w) (i / w - 0)) (get_or old i 0)) (within-hi (0 * w) (q * w) i (omega arith))
      ∙ sym (over-past xs old (omega arith) i (omega arith)))

  pub box_over : upd (boxed w 0 0 w q g) old ≡ over xs old
  box_over =
      ext_get_or 0 (upd (boxed w 0 0 w q g) old) (over xs old) (length-upd (boxed w 0 0 w q g) old ∙ sym (length_over xs old (omega arith)))
      (λ i lt. box_cell i (omega (arith, length-upd (boxed w 0 0 w q g) old)))

-- ---- f 1 to f n, one after another

pub length_most : (f : ℕ → List ℕ) (size n : ℕ) → ((k : ℕ) → k < n → length (f (suc k)) ≤ size) → length (concat_to f n) ≤ n * size
unfolding concat_to
length_most f size zero all = zero-le
length_most f size (suc n) all =
    omega (arith, length-append (concat_to f n) (f (suc n)), all n (omega arith), length_most f size n (λ k lt. all k (omega arith)))

module _ (f : ℕ → List ℕ) (size : ℕ) where
  pub length-all : (n : ℕ) → ((k : ℕ) → k < n → length (f (suc k)) ≡ size) → length (concat_to f n) ≡ n * size
  unfolding concat_to
  length-all zero all = sym (zero-mul size)
  length-all (suc n) all =
      omega (arith, length-append (concat_to f n) (f (suc n)), all n (omega arith), length-all n (λ k lt. all k (omega arith)))

  pub one_at : (n k j : ℕ) → ((k : ℕ) → k < n → length (f (suc k)) ≡ size) → k < n → j < size
      → get_or (concat_to f n) (k * size + j) 0 ≡ get_or (f (suc k)) j 0
  unfolding concat_to
  one_at zero k j all lt small = absurd (omega arith)
  one_at (suc n) k j all lt small =
      let before : (k : ℕ) → k < n → length (f (suc k)) ≡ size = λ k lt. all k (omega arith) in
      let long = length-all n before in
      by_cases (dec_lt k n)
      (λ early.
      get_or-append (concat_to f n) (f (suc n)) 0 (k * size + j) (omega (arith, long, digits_lt early small)) ∙ one_at n k j before early small)
      (λ last.
      let same : k ≡ n = omega arith in
      let place : k * size + j ≡ length (concat_to f n) + j = ap (λ (i : ℕ). i * size + j) same ∙ omega (arith, long) in
      ap (λ (i : ℕ). get_or (concat_to f n ++ f (suc n)) i 0) place ∙ get_or-append-add (concat_to f n) (f (suc n)) j 0
      ∙ ap (λ (i : ℕ). get_or (f (suc i)) j 0) (sym same))

-- ---- byte i of all planes together

-- it is row i / S mod H of plane i / S / H + 1
pub plane-place : (n h strips i : ℕ) → i < n * h * strips → 1 ≤ strips → 1 ≤ h
    → (i / strips / h < n) × (i ≡ i / strips / h * (strips * h) + (i / strips % h * strips + i % strips))
plane-place n h strips i lt some one =
    let q = i / strips in
    let rows : q < n * h = (div-lt_iff_lt-mul {k = strips} {x = i} {y = n * h} some).1 lt in
    let plane : q / h < n = (div-lt_iff_lt-mul {k = h} {x = q} {y = n} one).1 rows in
    let whole : q * strips + i % strips ≡ i = div-add-mod' i strips in
    let row : q / h * h + q % h ≡ q = div-add-mod' q h in
    let split : q * strips ≡ q / h * h * strips + q % h * strips = ap (λ (k : ℕ). k * strips) (sym row) ∙ add-mul (q / h * h) (q % h) strips in
    let size : q / h * h * strips ≡ q / h * (strips * h) = mul_assoc (q / h) h strips ∙ ap (λ (k : ℕ). q / h * k) (mul_comm h strips) in
    (plane, omega arith)
