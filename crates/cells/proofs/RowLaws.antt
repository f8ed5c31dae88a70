-- Writes along a row of a grid: cells whose old values were all read before the first of them was written, and a run beside a run.
-- Assumes nothing.
use Rattle.std.proofs.Common.{◌≡◌, sym, ap, ap₂, ◌∙◌, List, [], ◌∷◌, ◌++◌, append_assoc, ℕ, suc, ◌+◌, ◌*◌, ◌/◌, ◌%◌, ◌≤◌, ◌<◌, add-zero, arith, length, get_or, take, drop, drop-drop, set}
use lib.Arith.{digits_mod}
use lib.Seq.{sets-eq}
use borrow.Rule.Slice.PartMut.{put_mid}
use Rattle.grid.specs.Grid.{upd, rowed, boxed}
use Rattle.grid.proofs.Upd.{get_or-upd, upd_then}
use Rattle.grid.proofs.Box.{within-hi, within_cases, rowed_out, row-none, row_write, boxed_off, box_point, beside_point}

-- the next cell of a row, by its value in l, where the row began
module _ (w x y c : ℕ) (g : ℕ → ℕ → ℕ) (l px : List ℕ) (fits : x + c < w) (so : px ≡ upd (rowed w x y c g) l) where
  kept : (j : ℕ) → j ≡ y * w + (x + c) → j < length l → get_or px j 0 ≡ get_or l j 0
  kept j e h =
      let column : j % w ≡ x + c = rw e (digits_mod y fits) in
      rw so (get_or-upd (rowed w x y c g) l j h ∙ rowed_out w x y c g j (get_or l j 0) (within-hi x c (j % w) (omega arith)))

  pub row_put : (j v : ℕ) → j ≡ y * w + (x + c) → j < length l → v ≡ g c (get_or l j 0) → set px j v ≡ upd (rowed w x y (c + 1) g) l
  row_put j v e h is = row_write w x y c g l px fits so j v e (is ∙ ap (g c) (sym (kept j e h)))

-- eight bytes copied into the part of l from `at` on
pub eight_copied : (l ys : List ℕ) (at k a b c d e f i j : ℕ) → ys ≡ a ∷ b ∷ c ∷ d ∷ e ∷ f ∷ i ∷ j ∷ [] → k ≡ 8 → at + 8 ≤ length l
    → put_mid at k l ys
    ≡ set (set (set (set (set (set (set (set l at a) (at + 1) b) (at + 2) c) (at + 3) d) (at + 4) e) (at + 5) f) (at + 6) i) (at + 7) j
eight_copied l ys at k a b c d e f i j same long fits =
    let vs : List ℕ = a ∷ b ∷ c ∷ d ∷ e ∷ f ∷ i ∷ j ∷ [] in
    let one : at + 1 ≡ suc at = omega arith in
    let two : at + 2 ≡ suc (suc at) = omega arith in
    let three : at + 3 ≡ suc (suc (suc at)) = omega arith in
    let four : at + 4 ≡ suc (suc (suc (suc at))) = omega arith in
    let five : at + 5 ≡ suc (suc (suc (suc (suc at)))) = omega arith in
    let six : at + 6 ≡ suc (suc (suc (suc (suc (suc at))))) = omega arith in
    let seven : at + 7 ≡ suc (suc (suc (suc (suc (suc (suc at)))))) = omega arith in
    ap₂ (λ (bs : List ℕ) (n : ℕ). put_mid at n l bs) same long
    ∙ ap (λ (t : List ℕ). take at l ++ (vs ++ t)) (drop-drop 8 at l)
    ∙ sym (append_assoc (take at l) vs (drop (at + 8) l))
    ∙ sym (sets-eq vs l at fits)
    ∙ rw (one, two, three, four, five, six, seven)

-- eight cells
module _ (w x y at : ℕ) (g : ℕ → ℕ → ℕ) (l : List ℕ) (fits : x + 8 ≤ w) (room : y * w + (x + 8) ≤ length l) (start : at ≡ y * w + x) where
  pub eight_put : (a b c d e f i j : ℕ)
      → a ≡ g 0 (get_or l (at + 0) 0)
      → b ≡ g 1 (get_or l (at + 1) 0)
      → c ≡ g 2 (get_or l (at + 2) 0)
      → d ≡ g 3 (get_or l (at + 3) 0)
      → e ≡ g 4 (get_or l (at + 4) 0)
      → f ≡ g 5 (get_or l (at + 5) 0)
      → i ≡ g 6 (get_or l (at + 6) 0)
      → j ≡ g 7 (get_or l (at + 7) 0)
      → set (set (set (set (set (set (set (set l at a) (at + 1) b) (at + 2) c) (at + 3) d) (at + 4) e) (at + 5) f) (at + 6) i) (at + 7) j
      ≡ upd (rowed w x y 8 g) l
  eight_put a b c d e f i j a-is b-is c-is d-is e-is f-is i-is j-is =
      let one = row_put w x y 0 g l l (omega arith) (row-none w x y g l) at a (omega arith) (omega arith)
      (a-is ∙ ap (λ (n : ℕ). g 0 (get_or l n 0)) (add-zero at)) in
      let two = row_put w x y 1 g l _ (omega arith) one (at + 1) b (omega arith) (omega arith) b-is in
      let three = row_put w x y 2 g l _ (omega arith) two (at + 2) c (omega arith) (omega arith) c-is in
      let four = row_put w x y 3 g l _ (omega arith) three (at + 3) d (omega arith) (omega arith) d-is in
      let five = row_put w x y 4 g l _ (omega arith) four (at + 4) e (omega arith) (omega arith) e-is in
      let six = row_put w x y 5 g l _ (omega arith) five (at + 5) f (omega arith) (omega arith) f-is in
      let seven = row_put w x y 6 g l _ (omega arith) six (at + 6) i (omega arith) (omega arith) i-is in
      row_put w x y 7 g l _ (omega arith) seven (at + 7) j (omega arith) (omega arith) j-is

-- a row is a box of one row
row_box : (w x y n : ℕ) (g : ℕ → ℕ → ℕ) (i o : ℕ) → rowed w x y n g i o ≡ boxed w x y n 1 (λ c r p. g c p) i o
row_box w x y n g i o =
    ap (rowed w x y n g i) (sym (boxed_off w x y n 0 (λ c r p. g c p) i o (within_cases y 0 (i / w) (λ p q. absurd (omega arith)) (λ z. z))))
    ∙ ap (λ (q : ℕ). rowed w x q n g i (boxed w x y n 0 (λ c r p. g c p) i o)) (sym (add-zero y)) ∙ box_point w x y n 0 (λ c r p. g c p) i o

-- a run beside a run of the same row
pub row_beside : (w x x1 y n m : ℕ) (f g : ℕ → ℕ → ℕ) (l px qx : List ℕ)
    → x1 ≡ x + n
    → ((k o : ℕ) → k < m → g k o ≡ f (n + k) o)
    → px ≡ upd (rowed w x y n f) l
    → qx ≡ upd (rowed w x1 y m g) px
    → qx ≡ upd (rowed w x y (n + m) f) l
row_beside w x x1 y n m f g l px qx beside agree p q =
    upd_then (rowed w x y n f) (rowed w x1 y m g) (rowed w x y (n + m) f) l px qx
    (λ i o. row_box w x1 y m g i (rowed w x y n f i o) ∙ ap (boxed w x1 y m 1 (λ c r v. g c v) i) (row_box w x y n f i o)
    ∙ beside_point w x x1 y n m 1 (λ c r v. f c v) (λ c r v. g c v) beside (λ c r v h k. agree c v h) i o
    ∙ sym (row_box w x y (n + m) f i o))
    p q
