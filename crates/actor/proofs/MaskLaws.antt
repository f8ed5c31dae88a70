-- The byte of a mask bit stands within the masks, and eight bits taken out of two bytes are those of eight pixels. Assumes nothing.
use Rattle.std.proofs.Common.{◌≡◌, refl, sym, ap, ap₂, ◌∙◌, ◌||◌, cond, List, ℕ, ◌+◌, ◌-◌, ◌*◌, ◌/◌, ◌%◌, ◌^◌, ◌≤◌, ◌<◌, add_assoc, mul_comm, mul_assoc, mul-le-mul_right, arith, eqb, get_or, pow-add, pow_pos, shr-shr}
use mathlib.Core.Logic.{by_cases}
use native.Mathlib.Nat.{mul-add-div_right}
use native.Mathlib.Decide.{dec_lt}
use lib.Arith.{digits_div}
use Rattle.grid.specs.Grid.{upd, rowed}
use Rattle.actor.specs.Sizes.{Planes}
use Rattle.actor.specs.Hidden.{mask_place}
use Rattle.cells.proofs.RowLaws.{row_beside}

module _ (len w h n clip y : ℕ) (p : Planes len w h n) (first : 1 ≤ clip) (last : clip ≤ n) (hy : y < h) where
  below : (clip - 1) * h + y + 1 ≤ n * h
  below = let planes : clip - 1 + 1 ≤ n = omega arith in omega (arith, mul-le-mul_right h planes)

  pub mask_line : (mask_place w h clip (w / 8) y ≤ len) × ((clip - 1) * h + y < 800)
  mask_line =
      (omega (arith, mul-le-mul_right (w / 8) below, mul_comm (w / 8) (n * h), p.room), omega (arith, below, mul-le-mul_right h p.few))

  pub mask_spot : (x : ℕ) → x < w → (mask_place w h clip (x / 8) y < len) × ((clip - 1) * h + y < 800)
  mask_spot x hx = (omega (arith, mask_line.0), mask_line.1)

-- ---- eight bits that begin at bit s of byte a, counted from the left, and end in byte b
module _ (a b s k : ℕ) where
  pub window_first : s + k < 8 → b < 256 → (a * 256 + b) / 2 ^ (8 - s) / 2 ^ (7 - k) % 2 ≡ a / 2 ^ (7 - (s + k)) % 2
  window_first h byte =
      ap (λ (n : ℕ). n % 2)
      (shr-shr (a * 256 + b) (8 - s) (7 - k) ∙ ap (λ (n : ℕ). (a * 256 + b) / 2 ^ n) (omega arith)
      ∙ sym (shr-shr (a * 256 + b) 8 (7 - (s + k))) ∙ ap (λ (n : ℕ). n / 2 ^ (7 - (s + k))) (digits_div a byte))

  pub window_last : k < 8 → s < 8 → 8 ≤ s + k → (a * 256 + b) / 2 ^ (8 - s) / 2 ^ (7 - k) % 2 ≡ b / 2 ^ (15 - (s + k)) % 2
  window_last hk hs h =
      let u : ℕ = 15 - (s + k) in
      let t : ℕ = s + k - 8 in
      let whole : 8 ≡ t + 1 + u = omega arith in
      let power : 256 ≡ 2 ^ t * 2 * 2 ^ u = ap (λ (n : ℕ). 2 ^ n) whole ∙ pow-add 2 (t + 1) u ∙ ap (λ (n : ℕ). n * 2 ^ u) (pow-add 2 t 1) in
      let split : a * 256 + b ≡ a * (2 ^ t * 2) * 2 ^ u + b =
      ap (λ (n : ℕ). n + b) (ap (λ (n : ℕ). a * n) power ∙ sym (mul_assoc a (2 ^ t * 2) (2 ^ u))) in
      let part : (a * 256 + b) / 2 ^ (8 - s) / 2 ^ (7 - k) ≡ a * (2 ^ t * 2) + b / 2 ^ u =
      shr-shr (a * 256 + b) (8 - s) (7 - k) ∙ ap (λ (n : ℕ). (a * 256 + b) / 2 ^ n) (omega arith)
      ∙ ap (λ (n : ℕ). n / 2 ^ u) split ∙ mul-add-div_right (pow_pos u) (a * (2 ^ t * 2)) b in
      rw part (omega (arith, mul_assoc a (2 ^ t) 2))

-- the pixels n to n + m of a row that begins at x: their bits out of the mask bytes i and j, and each by its own place in the masks
module _ (masks picture : List ℕ) (line x from n m clear bits i j s : ℕ) (is-i : i ≡ line + (x + n) / 8) (is-j : j ≡ line + (x + n + m - 1) / 8)
    (is-s : s ≡ (x + n) % 8) (small : m ≤ 8)
    (in_first : (k : ℕ) → s + k < 8 → bits / 2 ^ (7 - k) % 2 ≡ get_or masks i 0 / 2 ^ (7 - (s + k)) % 2)
    (in_last : (k : ℕ) → k < 8 → 8 ≤ s + k → bits / 2 ^ (7 - k) % 2 ≡ get_or masks j 0 / 2 ^ (15 - (s + k)) % 2) where
  bit : (k : ℕ) → k < m → bits / 2 ^ (7 - k) % 2 ≡ get_or masks (line + (x + (n + k)) / 8) 0 / 2 ^ (7 - (x + (n + k)) % 8) % 2
  bit k h =
      by_cases (dec_lt (s + k) 8)
      (λ here.
      let place : i ≡ line + (x + (n + k)) / 8 = omega arith in
      let power : 7 - (s + k) ≡ 7 - (x + (n + k)) % 8 = omega arith in
      in_first k here ∙ ap₂ (λ (p q : ℕ). get_or masks p 0 / 2 ^ q % 2) place power)
      (λ there.
      let place : j ≡ line + (x + (n + k)) / 8 = omega arith in
      let power : 15 - (s + k) ≡ 7 - (x + (n + k)) % 8 = omega arith in
      in_last k (omega arith) (omega arith) ∙ ap₂ (λ (p q : ℕ). get_or masks p 0 / 2 ^ q % 2) place power)

  pub window_cell : (k o : ℕ)
      → k < m
      → cond (eqb (get_or picture (from + n + k) 0) clear || eqb (bits / 2 ^ (7 - k) % 2) 1) o (get_or picture (from + n + k) 0)
      ≡ cond (eqb (get_or picture (from + (n + k)) 0) clear
      || eqb (get_or masks (line + (x + (n + k)) / 8) 0 / 2 ^ (7 - (x + (n + k)) % 8) % 2) 1) o (get_or picture (from + (n + k)) 0)
  window_cell k o h = rw (bit k h, add_assoc from n k)

-- a turn of the loop by eights along a row
module _ (masks picture l px qx : List ℕ) (w x y line from clear bits k : ℕ) where
  pub eight-more : px ≡ upd (rowed w x y (8 * k) (λ j o. cond (eqb (get_or picture (from + j) 0) clear
      || eqb (get_or masks (line + (x + j) / 8) 0 / 2 ^ (7 - (x + j) % 8) % 2) 1) o (get_or picture (from + j) 0))) l
      → qx ≡ upd (rowed w (x + 8 * k) y 8 (λ j o. cond (eqb (get_or picture (from + 8 * k + j) 0) clear || eqb (bits / 2 ^ (7 - j) % 2) 1) o
      (get_or picture (from + 8 * k + j) 0))) px
      → ((j : ℕ) → x % 8 + j < 8 → bits / 2 ^ (7 - j) % 2 ≡ get_or masks (line + x / 8 + k) 0 / 2 ^ (7 - (x % 8 + j)) % 2)
      → ((j : ℕ) → j < 8 → 8 ≤ x % 8 + j → bits / 2 ^ (7 - j) % 2 ≡ get_or masks (line + (x + 7) / 8 + k) 0 / 2 ^ (15 - (x % 8 + j)) % 2)
      → qx ≡ upd (rowed w x y (8 * (k + 1)) (λ j o. cond (eqb (get_or picture (from + j) 0) clear
      || eqb (get_or masks (line + (x + j) / 8) 0 / 2 ^ (7 - (x + j) % 8) % 2) 1) o (get_or picture (from + j) 0))) l
  eight-more so made in_first in_last =
      let more : 8 * k + 8 ≡ 8 * (k + 1) = omega arith in
      rw more at (row_beside w x (x + 8 * k) y (8 * k) 8 _ _ l px qx refl
      (window_cell masks picture line x from (8 * k) 8 clear bits (line + x / 8 + k) (line + (x + 7) / 8 + k) (x % 8) (omega arith) (omega arith)
      (omega arith) (omega arith) in_first in_last) so made)
