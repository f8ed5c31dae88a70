-- Laws of two strips painted side by side: a row of both, below the rows before it.
use Rattle.std.proofs.Common.{◌≡◌, refl, ap, ◌∙◌, false, List, ℕ, ◌+◌, ◌-◌, ◌*◌, ◌≤◌, ◌<◌, arith, length, get_or, take, drop, length-take, length-drop, get_or-take, get_or-drop}
use Rattle.grid.specs.Grid.{upd, boxed, Inside}
use Rattle.grid.specs.Strip.{strip_over}
use Rattle.grid.proofs.Box.{box_beside, box_below}
use Rattle.table.specs.Body.{pixel_at}
use Rattle.load.specs.Pair.{Shows}
use Rattle.load.proofs.BoxLaws.{box_same}

-- row r of a strip, as a part of it
pub row-part : (x h : ℕ) (s : List ℕ) (f : ℕ → ℕ → ℕ) → Shows x h s f → (r : ℕ) → r < h → 8 * h ≤ length s
    → (c y : ℕ) → c < 8 → y < 1 → get_or (take (length s - 8 * r) (drop (8 * r) s)) (8 * y + c) 0 ≡ f (x + c) (r + y)
row-part x h s f shows r lr room c y lc ly =
    let place : 8 * r + (8 * y + c) ≡ 8 * r + c = omega arith in
    let row : r ≡ r + y = omega arith in
    get_or-take (length s - 8 * r) (drop (8 * r) s) (8 * y + c) 0 (omega arith)
    ∙ get_or-drop (8 * r) s (8 * y + c) 0
    ∙ ap (λ (j : ℕ). get_or s j 0) place
    ∙ shows c r lc lr
    ∙ ap (f (x + c)) row

-- it has eight pixels
pub row-long : (h : ℕ) (s : List ℕ) (r : ℕ) → r < h → 8 * h ≤ length s → 8 ≤ length (take (length s - 8 * r) (drop (8 * r) s))
row-long h s r lr room = omega (arith, length-take (length s - 8 * r) (drop (8 * r) s), length-drop (8 * r) s)

-- a row of each strip, where the rows before are done
pub row_of_both : (w k r : ℕ) (f : ℕ → ℕ → ℕ) (a b l px qx ox : List ℕ)
    → ((c y : ℕ) → c < 8 → y < 1 → get_or a (8 * y + c) 0 ≡ f (0 + c) (r + y))
    → ((c y : ℕ) → c < 8 → y < 1 → get_or b (8 * y + c) 0 ≡ f (8 + c) (r + y))
    → px ≡ upd (boxed w (8 * k) 0 16 r (λ c y o. f c y)) l
    → qx ≡ upd (boxed w (8 * k) r 8 1 (strip_over a 0 false)) px
    → ox ≡ upd (boxed w (8 * (k + 1)) r 8 1 (strip_over b 0 false)) qx
    → ox ≡ upd (boxed w (8 * k) 0 16 (r + 1) (λ c y o. f c y)) l
row_of_both w k r f a b l px qx ox left right before one two =
    let row : ℕ → ℕ → ℕ → ℕ = λ c y o. f c (r + y) in
    let first =
    box_same w (8 * k) r 8 1 (strip_over a 0 false) row px qx
    (λ c y o lc ly. let same : 0 + c ≡ c = omega arith in left c y lc ly ∙ ap (λ (j : ℕ). f j (r + y)) same) one in
    let both = box_beside w (8 * k) (8 * (k + 1)) r 8 8 1 row (strip_over b 0 false) px qx ox (omega arith) (λ c y o lc ly. right c y lc ly) first two in
    box_below w (8 * k) 0 r 16 r 1 (λ c y o. f c y) row l px ox (omega arith) (λ c y o lc ly. refl) before both

-- a row of one of the strips lies in the surface
pub row_inside : (n m w h k j r : ℕ) → Inside n w h (8 * k) 0 16 h → m ≡ n → j ≤ k + 1 → r < h → Inside m w h (8 * j) r 8 1
row_inside n m w h k j r p e le lr =
    record {
      wide = p.wide;
      high = p.high;
      room = omega (arith, p.room, e);
      right = omega (arith, p.right, le);
      low = omega (arith, lr);
    }

-- a strip of an SMAP block shows its cells of the background from column 8k on
pub strip_shows : (n h : ℕ) (s : List ℕ) (b z k j x : ℕ) (e : List ℕ) → 8 * j ≡ 8 * k + x
    → ((c y : ℕ) → c < 8 → y < h → get_or e (8 * y + c) 0 ≡ pixel_at n h s b z (8 * j + c) y)
    → Shows x h e (λ c r. pixel_at n h s b z (8 * k + c) r)
strip_shows n h s b z k j x e at read = λ c r lc lr.
    let place : 8 * j + c ≡ 8 * k + (x + c) = omega (arith, at) in
    read c r lc lr ∙ ap (λ (i : ℕ). pixel_at n h s b z i r) place
