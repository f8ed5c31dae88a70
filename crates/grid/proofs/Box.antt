-- Writes to a grid, cell by cell along a row and row by row down a box, as `upd`. Assumes nothing.
use Rattle.std.proofs.Common.{◌≡◌, sym, ap, ◌∙◌, true, false, cond, ◌⊎◌, inl, inr, List, ℕ, ◌+◌, ◌-◌, ◌*◌, ◌/◌, ◌%◌, ◌≤◌, ◌<◌, div-add-mod', mul-le-mul_right, arith, lt-ltb, le-ltb, le-leb, eq-eqb, ne_eqb, eqb, length, get_or, set}
use mathlib.Core.Bool.{and-false, false≢true}
use mathlib.Core.Logic.{by_cases}
use native.Mathlib.Decide.{ℕ_discrete, dec_lt}
use borrow.Author.Tests.{lt-leb}
use lib.Arith.{digits_div, digits_mod, digits_lt}
use Rattle.grid.specs.Grid.{upd, within, rowed, boxed, Inside}
use Rattle.grid.proofs.Upd.{get_or-upd, upd_ext, upd-upd, upd_id, upd_then, set-upd}

-- a cell stands within its grid
pub cell_lt : (w h x y : ℕ) → x < w → y < h → y * w + x < w * h
cell_lt w h x y p q = omega (arith, digits_lt q p)

pub within_yes : (a n x : ℕ) → a ≤ x → x < a + n → within a n x ≡ true
unfolding within
within_yes a n x p q = rw (le-leb a x p, lt-ltb x (a + n) q)

pub within-lo : (a n x : ℕ) → x < a → within a n x ≡ false
unfolding within
within-lo a n x p = rw (lt-leb a x p)

pub within-hi : (a n x : ℕ) → a + n ≤ x → within a n x ≡ false
unfolding within
within-hi a n x p = rw (le-leb a x (omega arith), le-ltb x (a + n) p)

-- within a range, by cases
pub within_cases : {P : Type 0} (a n x : ℕ) → (a ≤ x → x < a + n → P) → (within a n x ≡ false → P) → P
within_cases a n x on off =
    by_cases (dec_lt x a) (λ p. off (within-lo a n x p))
    (λ p. by_cases (dec_lt x (a + n)) (λ q. on (omega arith) q) (λ q. off (within-hi a n x (omega arith))))

-- ---- a row
module _ (w x0 y n : ℕ) (g : ℕ → ℕ → ℕ) (i o : ℕ) where
  pub rowed_in : i / w ≡ y → x0 ≤ i % w → i % w < x0 + n → rowed w x0 y n g i o ≡ g (i % w - x0) o
  unfolding rowed
  rowed_in e p q = rw (eq-eqb (i / w) y e, within_yes x0 n (i % w) p q)

  pub rowed_out : within x0 n (i % w) ≡ false → rowed w x0 y n g i o ≡ o
  unfolding rowed
  rowed_out h = rw (h, and-false)

  pub rowed_off : (i / w ≡ y → ⊥) → rowed w x0 y n g i o ≡ o
  unfolding rowed
  rowed_off h = rw (ne_eqb (i / w) y h)

module _ (w x0 y c : ℕ) (g : ℕ → ℕ → ℕ) (i o : ℕ) where
  pub row_same : (i / w ≡ y → i % w ≡ x0 + c → ⊥) → rowed w x0 y c g i o ≡ rowed w x0 y (c + 1) g i o
  row_same h =
      by_cases (ℕ_discrete (i / w) y)
      (λ e. within_cases x0 c (i % w)
      (λ p q. rowed_in w x0 y c g i o e p q ∙ sym (rowed_in w x0 y (c + 1) g i o e p (omega arith)))
      (λ m. rowed_out w x0 y c g i o m
      ∙ within_cases x0 (c + 1) (i % w)
      (λ p q. by_cases (ℕ_discrete (i % w) (x0 + c)) (λ z. absurd (h e z))
      (λ z. sym (rowed_out w x0 y c g i o m) ∙ rowed_in w x0 y c g i o e p (omega arith) ∙ sym (rowed_in w x0 y (c + 1) g i o e p q)))
      (λ m2. sym (rowed_out w x0 y (c + 1) g i o m2))))
      (λ e. rowed_off w x0 y c g i o e ∙ sym (rowed_off w x0 y (c + 1) g i o e))

-- the next cell of a row is written
module _ (w x0 y c : ℕ) (g : ℕ → ℕ → ℕ) (l : List ℕ) (fits : x0 + c < w) where
  cell_point : (i : ℕ)
      → i < length l
      → cond (eqb i (y * w + (x0 + c))) (g c (get_or (upd (rowed w x0 y c g) l) (y * w + (x0 + c)) 0)) (rowed w x0 y c g i (get_or l i 0))
      ≡ rowed w x0 y (c + 1) g i (get_or l i 0)
  cell_point i h =
      let j = y * w + (x0 + c) in
      let jd : j / w ≡ y = digits_div y fits in
      let jm : j % w ≡ x0 + c = digits_mod y fits in
      by_cases (ℕ_discrete i j)
      (λ e.
      let id : i / w ≡ y = ap (λ (k : ℕ). k / w) e ∙ jd in
      let im : i % w ≡ x0 + c = ap (λ (k : ℕ). k % w) e ∙ jm in
      let old : get_or (upd (rowed w x0 y c g) l) j 0 ≡ get_or l i 0 =
      get_or-upd (rowed w x0 y c g) l j (omega arith) ∙ rowed_out w x0 y c g j (get_or l j 0) (within-hi x0 c (j % w) (omega arith))
      ∙ ap (λ (k : ℕ). get_or l k 0) (sym e) in
      rw (eq-eqb i j e)
      (ap (g c) old ∙ ap (λ (k : ℕ). g k (get_or l i 0)) (omega arith) ∙ sym (rowed_in w x0 y (c + 1) g i (get_or l i 0) id (omega arith) (omega arith))))
      (λ e. rw (ne_eqb i j e) (row_same w x0 y c g i (get_or l i 0) (λ a b. e (sym (rw (a, b) at (div-add-mod' i w))))))

  pub cell_more : set (upd (rowed w x0 y c g) l) (y * w + (x0 + c)) (g c (get_or (upd (rowed w x0 y c g) l) (y * w + (x0 + c)) 0))
      ≡ upd (rowed w x0 y (c + 1) g) l
  cell_more = set-upd (rowed w x0 y c g) (rowed w x0 y (c + 1) g) l (y * w + (x0 + c)) _ cell_point

pub row-none : (w x0 y : ℕ) (g : ℕ → ℕ → ℕ) (l : List ℕ) → l ≡ upd (rowed w x0 y 0 g) l
row-none w x0 y g l = sym (upd_id (rowed w x0 y 0 g) l (λ i o. within_cases x0 0 (i % w) (λ p q. absurd (omega arith)) (rowed_out w x0 y 0 g i o)))

-- a turn of the loop along a row, as code makes it: the list px is the row so far, and v the cell's new value
module _ (w x0 y c : ℕ) (g : ℕ → ℕ → ℕ) (l px : List ℕ) (fits : x0 + c < w) (so : px ≡ upd (rowed w x0 y c g) l) where
  pub row_write : (j v : ℕ) → j ≡ y * w + (x0 + c) → v ≡ g c (get_or px j 0) → set px j v ≡ upd (rowed w x0 y (c + 1) g) l
  row_write j v e h = rw (h, e, so) (cell_more w x0 y c g l fits)

-- ---- a box
module _ (w x0 y0 bw bh : ℕ) (f : ℕ → ℕ → ℕ → ℕ) (i o : ℕ) where
  pub boxed_in : y0 ≤ i / w → i / w < y0 + bh → x0 ≤ i % w → i % w < x0 + bw → boxed w x0 y0 bw bh f i o ≡ f (i % w - x0) (i / w - y0) o
  unfolding boxed
  boxed_in a b p q = rw (within_yes y0 bh (i / w) a b, within_yes x0 bw (i % w) p q)

  pub boxed_off : within y0 bh (i / w) ≡ false → boxed w x0 y0 bw bh f i o ≡ o
  unfolding boxed
  boxed_off h = rw h

  pub boxed_out : within x0 bw (i % w) ≡ false → boxed w x0 y0 bw bh f i o ≡ o
  unfolding boxed
  boxed_out h = rw (h, and-false)

module _ (w x0 y0 bw r : ℕ) (f : ℕ → ℕ → ℕ → ℕ) (i o : ℕ) where
  pub box_point : rowed w x0 (y0 + r) bw (λ c p. f c r p) i (boxed w x0 y0 bw r f i o) ≡ boxed w x0 y0 bw (r + 1) f i o
  box_point =
      within_cases x0 bw (i % w)
      (λ p q. by_cases (ℕ_discrete (i / w) (y0 + r))
      (λ e. rowed_in w x0 (y0 + r) bw (λ c u. f c r u) i (boxed w x0 y0 bw r f i o) e p q
      ∙ ap (f (i % w - x0) r) (boxed_off w x0 y0 bw r f i o (within-hi y0 r (i / w) (omega arith)))
      ∙ ap (λ (k : ℕ). f (i % w - x0) k o) (omega arith)
      ∙ sym (boxed_in w x0 y0 bw (r + 1) f i o (omega arith) (omega arith) p q))
      (λ e. rowed_off w x0 (y0 + r) bw (λ c u. f c r u) i (boxed w x0 y0 bw r f i o) e
      ∙ within_cases y0 r (i / w)
      (λ a b. boxed_in w x0 y0 bw r f i o a b p q ∙ sym (boxed_in w x0 y0 bw (r + 1) f i o a (omega arith) p q))
      (λ m. boxed_off w x0 y0 bw r f i o m
      ∙ within_cases y0 (r + 1) (i / w)
      (λ a b. sym (boxed_off w x0 y0 bw r f i o m) ∙ boxed_in w x0 y0 bw r f i o a (omega arith) p q ∙ sym (boxed_in w x0 y0 bw (r + 1) f i o a b p q))
      (λ m2. sym (boxed_off w x0 y0 bw (r + 1) f i o m2)))))
      (λ m. rowed_out w x0 (y0 + r) bw (λ c u. f c r u) i (boxed w x0 y0 bw r f i o) m ∙ boxed_out w x0 y0 bw r f i o m
      ∙ sym (boxed_out w x0 y0 bw (r + 1) f i o m))

-- the next row of a box, after the rows before it
pub box_more : (w x0 y0 bw r : ℕ) (f : ℕ → ℕ → ℕ → ℕ) (l px row : List ℕ)
    → px ≡ upd (boxed w x0 y0 bw r f) l
    → row ≡ upd (rowed w x0 (y0 + r) bw (λ c p. f c r p)) px
    → row ≡ upd (boxed w x0 y0 bw (r + 1) f) l
box_more w x0 y0 bw r f l px row e h =
    h ∙ ap (upd (rowed w x0 (y0 + r) bw (λ c p. f c r p))) e
    ∙ upd-upd (rowed w x0 (y0 + r) bw (λ c p. f c r p)) (boxed w x0 y0 bw r f) l
    ∙ upd_ext (λ i o. rowed w x0 (y0 + r) bw (λ c p. f c r p) i (boxed w x0 y0 bw r f i o)) (boxed w x0 y0 bw (r + 1) f) l
    (λ i k. box_point w x0 y0 bw r f i (get_or l i 0))

pub box_none : (w x0 y0 bw : ℕ) (f : ℕ → ℕ → ℕ → ℕ) (l : List ℕ) → l ≡ upd (boxed w x0 y0 bw 0 f) l
box_none w x0 y0 bw f l = sym (upd_id (boxed w x0 y0 bw 0 f) l (λ i o. within_cases y0 0 (i / w) (λ p q. absurd (omega arith)) (boxed_off w x0 y0 bw 0 f i o)))

-- a cell of a box stands within the buffer
pub spot : (n w h x0 y0 bw bh r c : ℕ) → Inside n w h x0 y0 bw bh → r < bh → c < bw → (y0 + r) * w + (x0 + c) < n
spot n w h x0 y0 bw bh r c p hr hc = omega (arith, cell_lt w h (x0 + c) (y0 + r) (omega arith) (omega arith))

-- a box beside a box of the same height
module _ (w x0 x1 y0 n m h : ℕ) (f g : ℕ → ℕ → ℕ → ℕ) (beside : x1 ≡ x0 + n) (agree : (c r o : ℕ) → c < m → r < h → g c r o ≡ f (n + c) r o) (i o : ℕ) where
  pub beside_point : boxed w x1 y0 m h g i (boxed w x0 y0 n h f i o) ≡ boxed w x0 y0 (n + m) h f i o
  beside_point =
      within_cases y0 h (i / w)
      (λ a b. within_cases x1 m (i % w)
      (λ p q. boxed_in w x1 y0 m h g i (boxed w x0 y0 n h f i o) a b p q
      ∙ ap (g (i % w - x1) (i / w - y0)) (boxed_out w x0 y0 n h f i o (within-hi x0 n (i % w) (omega arith)))
      ∙ agree (i % w - x1) (i / w - y0) o (omega arith) (omega arith)
      ∙ ap (λ (k : ℕ). f k (i / w - y0) o) (omega arith)
      ∙ sym (boxed_in w x0 y0 (n + m) h f i o a b (omega arith) (omega arith)))
      (λ k. boxed_out w x1 y0 m h g i (boxed w x0 y0 n h f i o) k
      ∙ within_cases x0 n (i % w)
      (λ p q. boxed_in w x0 y0 n h f i o a b p q ∙ sym (boxed_in w x0 y0 (n + m) h f i o a b p (omega arith)))
      (λ z. boxed_out w x0 y0 n h f i o z
      ∙ within_cases x0 (n + m) (i % w)
      (λ p q. by_cases (dec_lt (i % w) (x0 + n))
      (λ t. sym (boxed_out w x0 y0 n h f i o z) ∙ boxed_in w x0 y0 n h f i o a b p t ∙ sym (boxed_in w x0 y0 (n + m) h f i o a b p q))
      (λ t. absurd (false≢true (sym k ∙ within_yes x1 m (i % w) (omega arith) (omega arith)))))
      (λ t. sym (boxed_out w x0 y0 (n + m) h f i o t)))))
      (λ k. boxed_off w x1 y0 m h g i (boxed w x0 y0 n h f i o) k ∙ boxed_off w x0 y0 n h f i o k ∙ sym (boxed_off w x0 y0 (n + m) h f i o k))

pub box_beside : (w x0 x1 y0 n m h : ℕ) (f g : ℕ → ℕ → ℕ → ℕ) (l px qx : List ℕ)
    → x1 ≡ x0 + n
    → ((c r o : ℕ) → c < m → r < h → g c r o ≡ f (n + c) r o)
    → px ≡ upd (boxed w x0 y0 n h f) l
    → qx ≡ upd (boxed w x1 y0 m h g) px
    → qx ≡ upd (boxed w x0 y0 (n + m) h f) l
box_beside w x0 x1 y0 n m h f g l px qx b agree e q =
    q ∙ ap (upd (boxed w x1 y0 m h g)) e ∙ upd-upd (boxed w x1 y0 m h g) (boxed w x0 y0 n h f) l
    ∙ upd_ext (λ i o. boxed w x1 y0 m h g i (boxed w x0 y0 n h f i o)) (boxed w x0 y0 (n + m) h f) l
    (λ i k. beside_point w x0 x1 y0 n m h f g b agree i (get_or l i 0))

pub box_thin : (w x0 y0 bh : ℕ) (f : ℕ → ℕ → ℕ → ℕ) (l : List ℕ) → l ≡ upd (boxed w x0 y0 0 bh f) l
box_thin w x0 y0 bh f l = sym (upd_id (boxed w x0 y0 0 bh f) l (λ i o. within_cases x0 0 (i % w) (λ p q. absurd (omega arith)) (boxed_out w x0 y0 0 bh f i o)))

-- a turn of a loop down a column
pub column_write : (w x0 y0 r : ℕ) (f : ℕ → ℕ → ℕ → ℕ) (l px : List ℕ)
    → x0 < w
    → px ≡ upd (boxed w x0 y0 1 r f) l
    → (j v : ℕ)
    → j ≡ (y0 + r) * w + x0
    → v ≡ f 0 r (get_or px j 0)
    → set px j v ≡ upd (boxed w x0 y0 1 (r + 1) f) l
column_write w x0 y0 r f l px fits so j v e h =
    box_more w x0 y0 1 r f l px _ so
    (row_write w x0 (y0 + r) 0 (λ c p. f c r p) px px (omega arith) (row-none w x0 (y0 + r) (λ c p. f c r p) px) j v (omega arith) h)

-- a row of a box ends within the buffer
pub row_room : (n w h x0 y0 bw bh r : ℕ) → Inside n w h x0 y0 bw bh → r < bh → (y0 + r) * w + (x0 + bw) ≤ n
row_room n w h x0 y0 bw bh r p hr = omega (arith, mul-le-mul_right w below)
  where
    below : y0 + r + 1 ≤ h
    below = omega arith

-- a box of no cells
pub box_empty : (w x0 y0 bw bh : ℕ) (f : ℕ → ℕ → ℕ → ℕ) (l : List ℕ) → (bw ≡ 0) ⊎ (bh ≡ 0) → l ≡ upd (boxed w x0 y0 bw bh f) l
box_empty w x0 y0 bw bh f l (inl e) = rw e (box_thin w x0 y0 bh f l)
box_empty w x0 y0 bw bh f l (inr e) = rw e (box_none w x0 y0 bw f l)

-- a box below a box of the same width
module _ (w x0 y0 y1 bw n m : ℕ) (f g : ℕ → ℕ → ℕ → ℕ) (below : y1 ≡ y0 + n) (agree : (c r o : ℕ) → c < bw → r < m → g c r o ≡ f c (n + r) o) (i o : ℕ) where
  pub below_point : boxed w x0 y1 bw m g i (boxed w x0 y0 bw n f i o) ≡ boxed w x0 y0 bw (n + m) f i o
  below_point =
      within_cases x0 bw (i % w)
      (λ p q. within_cases y1 m (i / w)
      (λ a b. boxed_in w x0 y1 bw m g i (boxed w x0 y0 bw n f i o) a b p q
      ∙ ap (g (i % w - x0) (i / w - y1)) (boxed_off w x0 y0 bw n f i o (within-hi y0 n (i / w) (omega arith)))
      ∙ agree (i % w - x0) (i / w - y1) o (omega arith) (omega arith)
      ∙ ap (λ (k : ℕ). f (i % w - x0) k o) (omega arith)
      ∙ sym (boxed_in w x0 y0 bw (n + m) f i o (omega arith) (omega arith) p q))
      (λ k. boxed_off w x0 y1 bw m g i (boxed w x0 y0 bw n f i o) k
      ∙ within_cases y0 n (i / w)
      (λ a b. boxed_in w x0 y0 bw n f i o a b p q ∙ sym (boxed_in w x0 y0 bw (n + m) f i o a (omega arith) p q))
      (λ z. boxed_off w x0 y0 bw n f i o z
      ∙ within_cases y0 (n + m) (i / w)
      (λ a b. by_cases (dec_lt (i / w) (y0 + n))
      (λ t. sym (boxed_off w x0 y0 bw n f i o z) ∙ boxed_in w x0 y0 bw n f i o a t p q ∙ sym (boxed_in w x0 y0 bw (n + m) f i o a b p q))
      (λ t. absurd (false≢true (sym k ∙ within_yes y1 m (i / w) (omega arith) (omega arith)))))
      (λ t. sym (boxed_off w x0 y0 bw (n + m) f i o t)))))
      (λ k. boxed_out w x0 y1 bw m g i (boxed w x0 y0 bw n f i o) k ∙ boxed_out w x0 y0 bw n f i o k ∙ sym (boxed_out w x0 y0 bw (n + m) f i o k))

pub box_below : (w x0 y0 y1 bw n m : ℕ) (f g : ℕ → ℕ → ℕ → ℕ) (l px qx : List ℕ)
    → y1 ≡ y0 + n
    → ((c r o : ℕ) → c < bw → r < m → g c r o ≡ f c (n + r) o)
    → px ≡ upd (boxed w x0 y0 bw n f) l
    → qx ≡ upd (boxed w x0 y1 bw m g) px
    → qx ≡ upd (boxed w x0 y0 bw (n + m) f) l
box_below w x0 y0 y1 bw n m f g l px qx b agree e q =
    upd_then _ _ _ _ _ _ (λ i o. below_point w x0 y0 y1 bw n m f g b agree i o) e q

-- two boxes whose cells agree
pub boxed_ext : (w x0 y0 bw bh : ℕ) (f g : ℕ → ℕ → ℕ → ℕ) → ((c r o : ℕ) → c < bw → r < bh → f c r o ≡ g c r o)
    → (i o : ℕ) → boxed w x0 y0 bw bh f i o ≡ boxed w x0 y0 bw bh g i o
boxed_ext w x0 y0 bw bh f g same i o =
    within_cases y0 bh (i / w)
    (λ a b. within_cases x0 bw (i % w)
    (λ p q. boxed_in w x0 y0 bw bh f i o a b p q ∙ same (i % w - x0) (i / w - y0) o (omega arith) (omega arith) ∙ sym (boxed_in w x0 y0 bw bh g i o a b p q))
    (λ m. boxed_out w x0 y0 bw bh f i o m ∙ sym (boxed_out w x0 y0 bw bh g i o m)))
    (λ m. boxed_off w x0 y0 bw bh f i o m ∙ sym (boxed_off w x0 y0 bw bh g i o m))

-- a box whose cells stay
pub box_kept : (w x0 y0 bw bh : ℕ) (f : ℕ → ℕ → ℕ → ℕ) (l : List ℕ) → ((c r o : ℕ) → c < bw → r < bh → f c r o ≡ o) → l ≡ upd (boxed w x0 y0 bw bh f) l
box_kept w x0 y0 bw bh f l stays =
    sym
    (upd_id (boxed w x0 y0 bw bh f) l
    (λ i o. within_cases y0 bh (i / w)
    (λ a b. within_cases x0 bw (i % w)
    (λ p q. boxed_in w x0 y0 bw bh f i o a b p q ∙ stays (i % w - x0) (i / w - y0) o (omega arith) (omega arith))
    (boxed_out w x0 y0 bw bh f i o))
    (boxed_off w x0 y0 bw bh f i o)))

-- a box over the same box
pub box_over : (w x0 y0 bw bh : ℕ) (f g : ℕ → ℕ → ℕ → ℕ) (l px qx : List ℕ)
    → px ≡ upd (boxed w x0 y0 bw bh f) l
    → qx ≡ upd (boxed w x0 y0 bw bh g) px
    → qx ≡ upd (boxed w x0 y0 bw bh (λ c r o. g c r (f c r o))) l
box_over w x0 y0 bw bh f g l px qx e q =
    upd_then _ _ _ _ _ _
    (λ i o. within_cases y0 bh (i / w)
    (λ a b. within_cases x0 bw (i % w)
    (λ c d. boxed_in w x0 y0 bw bh g i (boxed w x0 y0 bw bh f i o) a b c d
    ∙ ap (g (i % w - x0) (i / w - y0)) (boxed_in w x0 y0 bw bh f i o a b c d)
    ∙ sym (boxed_in w x0 y0 bw bh (λ c r o. g c r (f c r o)) i o a b c d))
    (λ m. boxed_out w x0 y0 bw bh g i (boxed w x0 y0 bw bh f i o) m ∙ boxed_out w x0 y0 bw bh f i o m
    ∙ sym (boxed_out w x0 y0 bw bh (λ c r o. g c r (f c r o)) i o m)))
    (λ m. boxed_off w x0 y0 bw bh g i (boxed w x0 y0 bw bh f i o) m ∙ boxed_off w x0 y0 bw bh f i o m
    ∙ sym (boxed_off w x0 y0 bw bh (λ c r o. g c r (f c r o)) i o m)))
    e q
