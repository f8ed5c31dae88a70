-- Boxes whose cells agree, and boxes as wide as their grid, which are runs of cells that stand one after another.
use Rattle.std.proofs.Common.{◌≡◌, sym, ap, ◌∙◌, List, ◌++◌, cond, ℕ, ◌+◌, ◌-◌, ◌*◌, ◌/◌, ◌%◌, ◌≤◌, ◌<◌, div-add-mod', mod-lt, mul-le-mul_right, mul-zero, arith, length, get_or, take, drop, replicate, length-take, ext_get_or, get_or-take, get_or-drop, get_or-append-add}
use mathlib.Core.Logic.{by_cases}
use native.Mathlib.Decide.{dec_lt}
use lib.ListN.{get_or-replicate, get_or-append}
use Rattle.grid.specs.Grid.{upd, within, boxed}
use Rattle.grid.proofs.Upd.{length-upd, get_or-upd, upd_ext}
use Rattle.grid.proofs.Box.{within_yes, within-lo, within-hi, boxed_in, boxed_off, boxed_out, boxed_ext}

-- a box written, by what its cells are
pub box_same : (w x0 y0 bw bh : ℕ) (f g : ℕ → ℕ → ℕ → ℕ) (l px : List ℕ) → ((c r o : ℕ) → c < bw → r < bh → f c r o ≡ g c r o)
    → px ≡ upd (boxed w x0 y0 bw bh f) l → px ≡ upd (boxed w x0 y0 bw bh g) l
box_same w x0 y0 bw bh f g l px agree e = e ∙ upd_ext _ _ l (λ i lt. boxed_ext w x0 y0 bw bh f g agree i (get_or l i 0))

module _ (w y0 bh : ℕ) (f : ℕ → ℕ → ℕ → ℕ) (i o : ℕ) where
  abbrev Run : Type 0
  Run = boxed w 0 y0 w bh f i o ≡ cond (within (y0 * w) (bh * w) i) (f (i % w) (i / w - y0) o) o

  pub wide_box : Run
  wide_box = by_cases (dec_lt 0 w) some (λ e. none (omega arith))
    where
      none : w ≡ 0 → Run
      none e =
          let top : y0 * w ≡ 0 = ap (λ (k : ℕ). y0 * k) e ∙ mul-zero y0 in
          let size : bh * w ≡ 0 = ap (λ (k : ℕ). bh * k) e ∙ mul-zero bh in
          rw (within-hi (y0 * w) (bh * w) i (omega arith)) (boxed_out w 0 y0 w bh f i o (within-hi 0 w (i % w) (omega arith)))

      some : 0 < w → Run
      some pos =
          let split = div-add-mod' i w in
          let column = mod-lt i pos in
          by_cases (dec_lt (i / w) y0)
          (λ p.
          let rows : i / w + 1 ≤ y0 = omega arith in
          rw (within-lo (y0 * w) (bh * w) i (omega (arith, mul-le-mul_right w rows))) (boxed_off w 0 y0 w bh f i o (within-lo y0 bh (i / w) p)))
          (λ p.
          let from : y0 ≤ i / w = omega arith in
          by_cases (dec_lt (i / w) (y0 + bh))
          (λ q.
          let rows : i / w + 1 ≤ y0 + bh = omega arith in
          let same : i % w - 0 ≡ i % w = omega arith in
          rw (within_yes (y0 * w) (bh * w) i (omega (arith, mul-le-mul_right w from)) (omega (arith, mul-le-mul_right w rows)))
          (boxed_in w 0 y0 w bh f i o from q (omega arith) (omega arith) ∙ ap (λ (k : ℕ). f k (i / w - y0) o) same))
          (λ q.
          let rows : y0 + bh ≤ i / w = omega arith in
          rw (within-hi (y0 * w) (bh * w) i (omega (arith, mul-le-mul_right w rows))) (boxed_off w 0 y0 w bh f i o (within-hi y0 bh (i / w) rows))))

-- copies of v from a place on
module _ (from m v : ℕ) (d e : List ℕ) (same : length e ≡ length d) (room : from + m ≤ length d)
    (front : take (from + m) e ≡ take from d ++ replicate m v) (back : drop (from + m) e ≡ drop (from + m) d) where
  at_front : (i : ℕ) → i < from + m → get_or e i 0 ≡ get_or (take from d ++ replicate m v) i 0
  at_front i lt = sym (get_or-take (from + m) e i 0 lt) ∙ ap (λ (l : List ℕ). get_or l i 0) front

  before_run : (i : ℕ) → i < from → get_or e i 0 ≡ get_or d i 0
  before_run i lt =
      at_front i (omega arith) ∙ get_or-append (take from d) (replicate m v) 0 i (omega (arith, length-take from d)) ∙ get_or-take from d i 0 lt

  in_run : (i : ℕ) → from ≤ i → i < from + m → get_or e i 0 ≡ v
  in_run i le lt =
      let place : i ≡ length (take from d) + (i - from) = omega (arith, length-take from d) in
      at_front i lt ∙ ap (λ (k : ℕ). get_or (take from d ++ replicate m v) k 0) place ∙ get_or-append-add (take from d) (replicate m v) (i - from) 0
      ∙ get_or-replicate m (i - from) v 0 (omega arith)

  after_run : (i : ℕ) → from + m ≤ i → get_or e i 0 ≡ get_or d i 0
  after_run i le =
      let place : from + m + (i - (from + m)) ≡ i = omega arith in
      ap (λ (k : ℕ). get_or e k 0) (sym place) ∙ sym (get_or-drop (from + m) e (i - (from + m)) 0) ∙ ap (λ (l : List ℕ). get_or l (i - (from + m)) 0) back
      ∙ get_or-drop (from + m) d (i - (from + m)) 0 ∙ ap (λ (k : ℕ). get_or d k 0) place

  pub run-upd : e ≡ upd (λ i o. cond (within from m i) v o) d
  run-upd = ext_get_or 0 e _ (same ∙ sym (length-upd _ d)) (λ i lt. cell i (omega arith) ∙ sym (get_or-upd _ d i (omega arith)))
    where
      cell : (i : ℕ) → i < length d → get_or e i 0 ≡ cond (within from m i) v (get_or d i 0)
      cell i lt =
          by_cases (dec_lt i from) (λ p. rw (within-lo from m i p) (before_run i p))
          (λ p. by_cases (dec_lt i (from + m))
          (λ q. rw (within_yes from m i (omega arith) q) (in_run i (omega arith) q))
          (λ q. rw (within-hi from m i (omega arith)) (after_run i (omega arith))))

-- a box of whole rows, all v
pub run_box : (w y0 bh v : ℕ) (d e : List ℕ) → length e ≡ length d → y0 * w + bh * w ≤ length d
    → take (y0 * w + bh * w) e ≡ take (y0 * w) d ++ replicate (bh * w) v
    → drop (y0 * w + bh * w) e ≡ drop (y0 * w + bh * w) d → e ≡ upd (boxed w 0 y0 w bh (λ c r o. v)) d
run_box w y0 bh v d e same room front back =
    run-upd (y0 * w) (bh * w) v d e same room front back ∙ upd_ext _ _ d (λ i lt. sym (wide_box w y0 bh (λ c r o. v) i (get_or d i 0)))

-- plane p + 1 stands within the buffer
pub plane-room : (p h n planes len : ℕ) → p + 1 ≤ planes → n * (planes * h) ≤ len → p * h * n + h * n ≤ len
plane-room p h n planes len last room = omega (arith, mul-le-mul_right (h * n) last)
