-- Laws of one strip's bytes: a buffer put through a function byte by byte, boxes one strip wide, and entries one over the other.
-- Assumes nothing.
use Rattle.std.proofs.Common.{◌≡◌, refl, sym, ap, ap₂, ◌∙◌, Bool, true, false, ◌&&◌, cond, true≢false, List, ℕ, ◌+◌, ◌-◌, ◌*◌, ◌/◌, ◌%◌, ◌≤◌, ◌<◌, div-add-mod', mod-lt, mul-le-mul_right, arith, lt-ltb, le-ltb, eq-eqb, ne_eqb, ltb-true, eqb-true, ltb, eqb}
use mathlib.Core.Logic.{by_cases}
use native.Mathlib.Decide.{ℕ_discrete, dec_lt}
use Rattle.grid.specs.Grid.{upd, within, boxed}
use Rattle.grid.proofs.Upd.{upd_id}
use Rattle.grid.proofs.Box.{within_yes, within-lo, within-hi, within_cases, boxed_in, boxed_off, boxed_out}
use Rattle.layers.specs.Layer.{strip_byte}

-- ---- the bytes of strip k
module _ (size : ℕ) (strip : ℕ → ℕ) (k : ℕ) where
  pub strip-in : (f : ℕ → ℕ → ℕ) (i o : ℕ) → i < size → strip i ≡ k → strip_byte size strip k f i o ≡ f i o
  unfolding strip_byte
  strip-in f i o lt e = rw (lt-ltb i size lt, eq-eqb (strip i) k e)

  pub strip-past : (f : ℕ → ℕ → ℕ) (i o : ℕ) → size ≤ i → strip_byte size strip k f i o ≡ o
  unfolding strip_byte
  strip-past f i o le = rw (le-ltb i size le)

  pub strip_off : (f : ℕ → ℕ → ℕ) (i o : ℕ) → (strip i ≡ k → ⊥) → strip_byte size strip k f i o ≡ o
  unfolding strip_byte
  strip_off f i o ne = rw (ne_eqb (strip i) k ne) (go (ltb i size))
    where
      go : (a : Bool) → cond (a && false) (f i o) o ≡ o
      go true = refl
      go false = refl

  -- two that agree at the strip's bytes
  pub strip_ext : (f g : ℕ → ℕ → ℕ) (i o : ℕ) → (i < size → strip i ≡ k → f i o ≡ g i o) → strip_byte size strip k f i o ≡ strip_byte size strip k g i o
  unfolding strip_byte
  strip_ext f g i o same = go (ltb i size) (eqb (strip i) k) refl refl
    where
      go : (a b : Bool) → ltb i size ≡ a → eqb (strip i) k ≡ b → cond (a && b) (f i o) o ≡ cond (a && b) (g i o) o
      go true true p q = same (ltb-true i size p) (eqb-true (strip i) k q)
      go true false p q = refl
      go false b p q = refl

  -- one after the other
  pub strip_then : (f g : ℕ → ℕ → ℕ) (i o : ℕ) → strip_byte size strip k g i (strip_byte size strip k f i o) ≡ strip_byte size strip k (λ j p. g j (f j p)) i o
  unfolding strip_byte
  strip_then f g i o = go (ltb i size && eqb (strip i) k)
    where
      go : (a : Bool) → cond a (g i (cond a (f i o) o)) (cond a (f i o) o) ≡ cond a (g i (f i o)) o
      go true = refl
      go false = refl

  -- nothing is changed
  pub strip-same : (f : ℕ → ℕ → ℕ) (l : List ℕ) → ((i o : ℕ) → strip i ≡ k → f i o ≡ o) → upd (strip_byte size strip k f) l ≡ l
  unfolding strip_byte
  strip-same f l same = upd_id (strip_byte size strip k f) l (λ i o. strip_ext f (λ j p. p) i o (λ lt e. same i o e) ∙ idle i o)
    where
      idle : (i o : ℕ) → strip_byte size strip k (λ j p. p) i o ≡ o
      idle i o = go (ltb i size && eqb (strip i) k)
        where
          go : (a : Bool) → cond a o o ≡ o
          go true = refl
          go false = refl

-- ---- a box in strip k of the pixels of n strips and h rows
module _ (n h k y0 bh : ℕ) (f : ℕ → ℕ → ℕ → ℕ) (g : ℕ → ℕ → ℕ) (some : 0 < n) (low : y0 + bh ≤ h)
    (same : (i o : ℕ) → i % (8 * n) / 8 ≡ k → g i o ≡ cond (within y0 bh (i / (8 * n))) (f (i % (8 * n) - 8 * k) (i / (8 * n) - y0) o) o) where
  abbrev w : ℕ
  w = 8 * n

  pub pixel_box : (i o : ℕ) → boxed (8 * n) (8 * k) y0 8 bh f i o ≡ strip_byte (h * (8 * n)) (λ j. j % (8 * n) / 8) k g i o
  pixel_box i o = by_cases (ℕ_discrete ((i % w) / 8) k) on off
    where
      off : ((i % w) / 8 ≡ k → ⊥) → boxed w (8 * k) y0 8 bh f i o ≡ strip_byte (h * w) (λ j. j % w / 8) k g i o
      off ne =
          within_cases (8 * k) 8 (i % w) (λ p q. absurd (ne (omega arith)))
          (λ m. boxed_out w (8 * k) y0 8 bh f i o m ∙ sym (strip_off (h * w) (λ j. j % w / 8) k g i o ne))

      on : (i % w) / 8 ≡ k → boxed w (8 * k) y0 8 bh f i o ≡ strip_byte (h * w) (λ j. j % w / 8) k g i o
      on e = within_cases y0 bh (i / w) inside outside
        where
          inside : y0 ≤ (i / w) → (i / w) < y0 + bh → boxed w (8 * k) y0 8 bh f i o ≡ strip_byte (h * w) (λ j. j % w / 8) k g i o
          inside a b =
              let split = div-add-mod' i w in
              let pos : 0 < w = omega arith in
              let column = mod-lt i pos in
              let rows : (i / w) + 1 ≤ h = omega arith in
              let small : i < h * w = omega (arith, mul-le-mul_right w rows) in
              boxed_in w (8 * k) y0 8 bh f i o a b (omega arith) (omega arith)
              ∙ sym (strip-in (h * w) (λ j. j % w / 8) k g i o small e ∙ same i o e ∙ (rw (within_yes y0 bh (i / w) a b)))

          outside : within y0 bh (i / w) ≡ false → boxed w (8 * k) y0 8 bh f i o ≡ strip_byte (h * w) (λ j. j % w / 8) k g i o
          outside m =
              let stays : g i o ≡ o = same i o e ∙ (rw m) in
              boxed_off w (8 * k) y0 8 bh f i o m
              ∙ by_cases (dec_lt i (h * w))
              (λ lt. sym (strip-in (h * w) (λ j. j % w / 8) k g i o lt e ∙ stays))
              (λ le. sym (strip-past (h * w) (λ j. j % w / 8) k g i o (omega arith)))

-- ---- a box in strip k of plane q + 1, after those of the planes before it, in masks of n strips and h rows
module _ (n h k q y0 bh : ℕ) (f : ℕ → ℕ → ℕ → ℕ) (g : ℕ → ℕ → ℕ) (some : 0 < n) (tall : 0 < h) (low : y0 + bh ≤ h)
    (same : (i o : ℕ) → i / n / h ≡ q → i % n ≡ k → g i o ≡ cond (within y0 bh (i / n % h)) (f 0 (i / n % h - y0) o) o) where
  abbrev before : ℕ → ℕ → ℕ
  before = strip_byte (q * h * n) (λ j. j % n) k g

  abbrev after : ℕ → ℕ → ℕ
  after = strip_byte ((q + 1) * h * n) (λ j. j % n) k g

  abbrev box : ℕ → ℕ → ℕ
  box = boxed n k (q * h + y0) 1 bh f

  pub plane_box : (i o : ℕ) → box i (before i o) ≡ after i o
  plane_box i o = by_cases (ℕ_discrete (i % n) k) on off
    where
      off : (i % n ≡ k → ⊥) → box i (before i o) ≡ after i o
      off ne =
          within_cases k 1 (i % n) (λ a b. absurd (ne (omega arith)))
          (λ m. boxed_out n k (q * h + y0) 1 bh f i (before i o) m ∙ strip_off (q * h * n) (λ j. j % n) k g i o ne
          ∙ sym (strip_off ((q + 1) * h * n) (λ j. j % n) k g i o ne))

      on : i % n ≡ k → box i (before i o) ≡ after i o
      on e =
          by_cases (dec_lt ((i / n) / h) q) earlier
          (λ ge. by_cases (ℕ_discrete ((i / n) / h) q) here (λ ne. later (omega arith)))
        where
          cell : (i / n) * n + i % n ≡ i
          cell = div-add-mod' i n

          column : i % n < n
          column = mod-lt i some

          line : (i / n) / h * h + (i / n) % h ≡ (i / n)
          line = div-add-mod' (i / n) h

          inner : (i / n) % h < h
          inner = mod-lt (i / n) tall

          earlier : (i / n) / h < q → box i (before i o) ≡ after i o
          earlier lt =
              let next : (i / n) / h + 1 ≤ q = omega arith in
              let upper : (i / n) + 1 ≤ q * h = omega (arith, line, inner, mul-le-mul_right h next) in
              let small : i < q * h * n = omega (arith, cell, column, mul-le-mul_right n upper) in
              let more : i < (q + 1) * h * n = omega arith in
              boxed_off n k (q * h + y0) 1 bh f i (before i o) (within-lo (q * h + y0) bh (i / n) (omega arith))
              ∙ strip-in (q * h * n) (λ j. j % n) k g i o small e ∙ sym (strip-in ((q + 1) * h * n) (λ j. j % n) k g i o more e)

          later : q < (i / n) / h → box i (before i o) ≡ after i o
          later lt =
              let next : q + 1 ≤ (i / n) / h = omega arith in
              let below : (q + 1) * h ≤ (i / n) = omega (arith, line, mul-le-mul_right h next) in
              let past : (q + 1) * h * n ≤ i = omega (arith, cell, mul-le-mul_right n below) in
              let past0 : q * h * n ≤ i = omega arith in
              boxed_off n k (q * h + y0) 1 bh f i (before i o) (within-hi (q * h + y0) bh (i / n) (omega arith))
              ∙ strip-past (q * h * n) (λ j. j % n) k g i o past0 ∙ sym (strip-past ((q + 1) * h * n) (λ j. j % n) k g i o past)

          here : (i / n) / h ≡ q → box i (before i o) ≡ after i o
          here is =
              let top : (i / n) / h * h ≡ q * h = ap (λ (t : ℕ). t * h) is in
              let from : q * h ≤ (i / n) = omega (arith, line) in
              let upto : (i / n) + 1 ≤ (q + 1) * h = omega (arith, line, inner) in
              let small : i < (q + 1) * h * n = omega (arith, cell, column, mul-le-mul_right n upto) in
              let past : q * h * n ≤ i = omega (arith, cell, mul-le-mul_right n from) in
              ap (box i) (strip-past (q * h * n) (λ j. j % n) k g i o past)
              ∙ within_cases y0 bh ((i / n) % h)
              (λ a b.
              let r : (i / n) - (q * h + y0) ≡ (i / n) % h - y0 = omega (arith, line) in
              let c : i % n - k ≡ 0 = omega arith in
              boxed_in n k (q * h + y0) 1 bh f i o (omega (arith, line)) (omega (arith, line)) (omega arith) (omega arith)
              ∙ ap₂ (λ (u v : ℕ). f u v o) c r
              ∙ sym (same i o is e ∙ (rw (within_yes y0 bh ((i / n) % h) a b))))
              (λ m.
              boxed_off n k (q * h + y0) 1 bh f i o
              (within_cases (q * h + y0) bh (i / n) (λ a b. absurd (off_line m (omega (arith, line)) (omega (arith, line)))) (λ z. z))
              ∙ sym (same i o is e ∙ (rw m)))
              ∙ sym (strip-in ((q + 1) * h * n) (λ j. j % n) k g i o small e)
            where
              off_line : within y0 bh ((i / n) % h) ≡ false → y0 ≤ (i / n) % h → (i / n) % h < y0 + bh → ⊥
              off_line m a b = let z : true ≡ false = sym (within_yes y0 bh ((i / n) % h) a b) ∙ m in absurd (true≢false z)
