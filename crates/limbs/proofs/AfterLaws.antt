-- What the bytes are after each limb below n is put: limb by limb, and byte by byte where a limb is put as it was.
use Rattle.std.proofs.Common.{◌≡◌, refl, ap, ◌∙◌, List, ℕ, zero, suc, ◌+◌, ◌*◌, ◌/◌, ◌%◌, ◌-◌, ◌<◌, ◌≤◌, div-add-mod', not-suc-le-zero, add-zero, arith, length, get_or}
use mathlib.Core.Logic.{by_cases}
use native.Mathlib.Decide.{dec_lt, ℕ_discrete}
use lib.Seq.{sets, length-sets}
use Rattle.number.proofs.StoreLaws.{sets_below, sets_above, sets_in}
use Rattle.number.specs.Number.{le32, le32_bytes}
use Rattle.limbs.specs.declared.Limb.{Limb}
use Rattle.limbs.specs.Limb.{limb_at, put_limb, head_bytes, each_limb}
use Rattle.limbs.proofs.LimbLaws.{put_below, put_above, length-each, each_above, limb_same}

-- a list of bytes
abbrev pub Bytes : List ℕ → Type 0
Bytes l = (j : ℕ) → get_or l j 0 < 256

-- a limb whose start and place a u32 holds
pub record Small (x : Limb) : Type 0 where
  pub start : x.start < 4294967296
  pub place : x.place < 4294967296

-- a limb that was read from bytes
pub limb_small : (l : List ℕ) (i : ℕ) → Bytes l → Small (limb_at l i)
unfolding limb_at
limb_small l i b =
    record {
      start = omega (arith, b (16 * i + 8), b (16 * i + 8 + 1), b (16 * i + 8 + 2), b (16 * i + 8 + 3));
      place = omega (arith, b (16 * i + 12), b (16 * i + 12 + 1), b (16 * i + 12 + 2), b (16 * i + 12 + 3));
    }

-- ---- the bytes of a limb that is put
module _ (l : List ℕ) (i : ℕ) (x : Limb) (fits : 16 * i + 16 ≤ length l) where
  abbrev head : List ℕ
  head = sets l (16 * i) (head_bytes x)

  abbrev window : List ℕ
  window = sets head (16 * i + 8) (le32_bytes x.start)

  length_head : length head ≡ length l
  length_head = length-sets l (16 * i) (head_bytes x)

  length_window : length window ≡ length l
  length_window = length-sets head (16 * i + 8) (le32_bytes x.start) ∙ length_head

  pub put-head : (j k : ℕ) → j ≡ 16 * i + k → k < 6 → get_or (put_limb l i x) j 0 ≡ get_or (head_bytes x) k 0
  unfolding put_limb le32_bytes
  put-head j k e h =
      sets_below (le32_bytes x.place) window (16 * i + 12) j (omega arith) ∙ sets_below (le32_bytes x.start) head (16 * i + 8) j (omega arith)
      ∙ sets_in (head_bytes x) l (16 * i) j k e h (omega arith)

  pub put_unused : (j : ℕ) → 16 * i + 6 ≤ j → j < 16 * i + 8 → get_or (put_limb l i x) j 0 ≡ get_or l j 0
  unfolding put_limb le32_bytes
  put_unused j a b =
      sets_below (le32_bytes x.place) window (16 * i + 12) j (omega arith) ∙ sets_below (le32_bytes x.start) head (16 * i + 8) j b
      ∙ sets_above (head_bytes x) l (16 * i) j (omega arith)

  pub put_start : (j k : ℕ) → j ≡ 16 * i + 8 + k → k < 4 → get_or (put_limb l i x) j 0 ≡ get_or (le32_bytes x.start) k 0
  unfolding put_limb le32_bytes
  put_start j k e h =
      sets_below (le32_bytes x.place) window (16 * i + 12) j (omega arith) ∙ sets_in (le32_bytes x.start) head (16 * i + 8) j k e h
      (omega (arith, length_head))

  pub put-place : (j k : ℕ) → j ≡ 16 * i + 12 + k → k < 4 → get_or (put_limb l i x) j 0 ≡ get_or (le32_bytes x.place) k 0
  unfolding put_limb le32_bytes
  put-place j k e h = sets_in (le32_bytes x.place) window (16 * i + 12) j k e h (omega (arith, length_window))

-- ---- a number and its four bytes
pub four_back : (n : ℕ) → n < 4294967296 → n % 256 + n / 256 % 256 * 256 + n / 65536 % 256 * 65536 + n / 16777216 % 256 * 16777216 ≡ n
four_back n h =
    let a : n / 65536 ≡ n / 256 / 256 = omega arith in
    let b : n / 16777216 ≡ n / 65536 / 256 = omega arith in
    let c : n / 16777216 % 256 ≡ n / 16777216 = omega arith in
    joined (n % 256) (n / 256 % 256) (n / 65536 % 256) (n / 16777216 % 256) (n / 256) (n / 65536) (n / 16777216) (div-add-mod' n 256)
    (rw (← a) at (div-add-mod' (n / 256) 256)) (rw (← b) at (div-add-mod' (n / 65536) 256)) c
  where
    joined : (r0 r1 r2 r3 p q r : ℕ) → p * 256 + r0 ≡ n → q * 256 + r1 ≡ p → r * 256 + r2 ≡ q → r3 ≡ r → r0 + r1 * 256 + r2 * 65536 + r3 * 16777216 ≡ n
    joined r0 r1 r2 r3 p q r d e f g = omega arith

pub four_of : (l : List ℕ) (at : ℕ) → Bytes l → (k : ℕ) → k < 4 → get_or (le32_bytes (le32 l at)) k 0 ≡ get_or l (at + k) 0
unfolding le32_bytes
four_of l at b zero h = rw add-zero (omega (arith, b at, b (at + 1), b (at + 2), b (at + 3)))
four_of l at b (suc zero) h = omega (arith, b at, b (at + 1), b (at + 2), b (at + 3))
four_of l at b (suc (suc zero)) h = omega (arith, b at, b (at + 1), b (at + 2), b (at + 3))
four_of l at b (suc (suc (suc zero))) h = omega (arith, b at, b (at + 1), b (at + 2), b (at + 3))
four_of l at b (suc (suc (suc (suc k)))) h = absurd (omega arith)

-- two limbs with equal fields
limb_eq : (x y : Limb) → x.active ≡ y.active → x.stopped ≡ y.stopped → x.noloop ≡ y.noloop → x.shows ≡ y.shows → x.picture ≡ y.picture → x.len ≡
    y.len → x.start ≡ y.start → x.place ≡ y.place → x ≡ y
limb_eq x y a b c d e f g h = λ i. record { active = a i; stopped = b i; noloop = c i; shows = d i; picture = e i; len = f i; start = g i; place = h i }

-- what is put is read back
pub put_read : (l : List ℕ) (i : ℕ) (x : Limb) → 16 * i + 16 ≤ length l → Small x → limb_at (put_limb l i x) i ≡ x
unfolding limb_at le32_bytes
put_read l i x fits small =
    limb_eq _ x (put-head l i x fits (16 * i) 0 (omega arith) (omega arith))
    (put-head l i x fits (16 * i + 1) 1 refl (omega arith))
    (put-head l i x fits (16 * i + 2) 2 refl (omega arith))
    (put-head l i x fits (16 * i + 3) 3 refl (omega arith))
    (put-head l i x fits (16 * i + 4) 4 refl (omega arith))
    (put-head l i x fits (16 * i + 5) 5 refl (omega arith))
    (rw (
      put_start l i x fits (16 * i + 8) 0 (omega arith) (omega arith),
      put_start l i x fits (16 * i + 8 + 1) 1 refl (omega arith),
      put_start l i x fits (16 * i + 8 + 2) 2 refl (omega arith),
      put_start l i x fits (16 * i + 8 + 3) 3 refl (omega arith),
    )
    (four_back x.start small.start))
    (rw (
      put-place l i x fits (16 * i + 12) 0 (omega arith) (omega arith),
      put-place l i x fits (16 * i + 12 + 1) 1 refl (omega arith),
      put-place l i x fits (16 * i + 12 + 2) 2 refl (omega arith),
      put-place l i x fits (16 * i + 12 + 3) 3 refl (omega arith),
    )
    (four_back x.place small.place))

-- ---- a limb that is put as it was leaves its bytes
head_same : (l : List ℕ) (i k : ℕ) → k < 6 → get_or (head_bytes (limb_at l i)) k 0 ≡ get_or l (16 * i + k) 0
unfolding limb_at
head_same l i zero h = rw add-zero
head_same l i (suc zero) h = refl
head_same l i (suc (suc zero)) h = refl
head_same l i (suc (suc (suc zero))) h = refl
head_same l i (suc (suc (suc (suc zero)))) h = refl
head_same l i (suc (suc (suc (suc (suc zero))))) h = refl
head_same l i (suc (suc (suc (suc (suc (suc k)))))) h = absurd (omega arith)

module _ (l m : List ℕ) (i : ℕ) (x : Limb) (bytes : Bytes l) (same : x ≡ limb_at l i) (fits : 16 * i + 16 ≤ length m) where
  pub put_kept : (j : ℕ) → get_or m j 0 ≡ get_or l j 0 → get_or (put_limb m i x) j 0 ≡ get_or l j 0
  unfolding limb_at le32_bytes
  put_kept j was =
      by_cases (dec_lt j (16 * i)) (λ h. put_below m i x j h ∙ was)
      (λ a. by_cases (dec_lt j (16 * i + 6))
      (λ h. put-head m i x fits j (j - 16 * i) (omega arith) (omega arith) ∙ ap (λ (y : Limb). get_or (head_bytes y) (j - 16 * i) 0) same
      ∙ head_same l i (j - 16 * i) (omega arith) ∙ ap (λ (q : ℕ). get_or l q 0) (omega arith))
      (λ b. by_cases (dec_lt j (16 * i + 8)) (λ h. put_unused m i x fits j (omega arith) h ∙ was)
      (λ c. by_cases (dec_lt j (16 * i + 12))
      (λ h. put_start m i x fits j (j - (16 * i + 8)) (omega arith) (omega arith) ∙ ap (λ (y : Limb). get_or (le32_bytes y.start) (j - (16 * i + 8)) 0) same
      ∙ four_of l (16 * i + 8) bytes (j - (16 * i + 8)) (omega arith) ∙ ap (λ (q : ℕ). get_or l q 0) (omega arith))
      (λ d. by_cases (dec_lt j (16 * i + 16))
      (λ h. put-place m i x fits j (j - (16 * i + 12)) (omega arith) (omega arith) ∙ ap (λ (y : Limb). get_or (le32_bytes y.place) (j - (16 * i + 12)) 0) same
      ∙ four_of l (16 * i + 12) bytes (j - (16 * i + 12)) (omega arith) ∙ ap (λ (q : ℕ). get_or l q 0) (omega arith))
      (λ e. put_above m i x j (omega arith) ∙ was)))))

-- ---- each limb below n put
module _ (f : ℕ → Limb → Limb) (l : List ℕ) (i : ℕ) where
  -- the bytes of limb i, once it is put, stay
  each_since : (n j : ℕ) → i < n → j < 16 * i + 16 → get_or (each_limb f n l) j 0 ≡ get_or (put_limb (each_limb f i l) i (f i (limb_at l i))) j 0
  unfolding each_limb
  each_since zero j a h = absurd (not-suc-le-zero a)
  each_since (suc n) j a h =
      by_cases (ℕ_discrete i n) (λ e. rw e)
      (λ e. put_below (each_limb f n l) n (f n (limb_at l n)) j (omega arith) ∙ each_since n j (omega arith) h)

  module _ (n : ℕ) (below : i < n) (fits : 16 * n ≤ length l) where
    -- limb i afterwards is f i of what it was
    pub each-limb : Small (f i (limb_at l i)) → limb_at (each_limb f n l) i ≡ f i (limb_at l i)
    each-limb small =
        limb_same (each_limb f n l) (put_limb (each_limb f i l) i (f i (limb_at l i))) i (λ j a b. each_since n j below b)
        ∙ put_read (each_limb f i l) i (f i (limb_at l i)) (rw length-each (omega arith)) small

    -- its two bytes that are not used stay
    pub each_unused : (j : ℕ) → 16 * i + 6 ≤ j → j < 16 * i + 8 → get_or (each_limb f n l) j 0 ≡ get_or l j 0
    each_unused j a b =
        each_since n j below (omega arith) ∙ put_unused (each_limb f i l) i (f i (limb_at l i)) (rw length-each (omega arith)) j a b ∙ each_above f l i j
        (omega arith)

    -- a limb that f leaves has all its bytes as they were
    pub each-kept : Bytes l → f i (limb_at l i) ≡ limb_at l i → (j : ℕ) → 16 * i ≤ j → j < 16 * i + 16 → get_or (each_limb f n l) j 0 ≡ get_or l j 0
    each-kept bytes same j a b =
        each_since n j below b ∙ put_kept l (each_limb f i l) i (f i (limb_at l i)) bytes same (rw length-each (omega arith)) j (each_above f l i j a)
