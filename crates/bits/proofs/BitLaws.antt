-- Laws of the low bits of a number, and of a number read from a list of bits.
use Rattle.std.proofs.Common.{◌≡◌, refl, sym, ap, ap₂, ◌∙◌, subst, Bool, true, false, true≢false, List, [], ◌∷◌, ◌++◌, append_assoc, ℕ, zero, suc, ◌+◌, ◌-◌, ◌*◌, ◌/◌, ◌%◌, ◌^◌, ◌≤◌, ◌<◌, mod-lt, le_of_suc-le-suc, not-suc-le-zero, zero-add, suc-add, div-one, pow-suc, mul_assoc, div-add-mod', add-one, one-add, arith, length, drop, replicate, length-append, drop_at, eqb, shr-shr, pow_pos}
use native.Mathlib.Nat.{suc-sub-suc, sub-zero, mod-one}
use lib.Pow.{mod-pow-add}
use Rattle.bits.specs.Bits.{low_bits, Pull, short, got, bit_value, below, pull}

-- bit 0 is the remainder by 2
pub bit0 : (x : ℕ) → bit_value (eqb (x % 2) 1) ≡ x % 2
bit0 x = go (x % 2) (omega arith)
  where
    go : (r : ℕ) → r < 2 → bit_value (eqb r 1) ≡ r
    go zero h = refl
    go (suc zero) h = refl
    go (suc (suc r)) h = absurd (omega arith)

low_value : (n x : ℕ) → bit_value (eqb (x % 2) 1) + 2 * (x / 2 % 2 ^ n) ≡ x % 2 ^ suc n
low_value n x = omega (arith, bit0 x, rw add-one at (mod-pow-add x n 1))

low-rest : (n x : ℕ) → x / 2 / 2 ^ n ≡ x / 2 ^ suc n
low-rest n x = rw one-add at (shr-shr x 1 n)

-- an n-bit number read from h bits of x, with n ≤ h
pub pull-low : (n h x : ℕ) (l : List Bool) → n ≤ h → pull n (low_bits h x ++ l) ≡ got (x % 2 ^ n) (low_bits (h - n) (x / 2 ^ n) ++ l)
unfolding low_bits
pull-low zero h x l le = simp (mod-one, sub-zero, div-one)
pull-low (suc n) zero x l le = absurd (not-suc-le-zero le)
pull-low (suc n) (suc h) x l le =
    ap (below (eqb (x % 2) 1)) (pull-low n h (x / 2) l (le_of_suc-le-suc le)) ∙ ap₂ got (low_value n x)
    (ap₂ (λ (k y : ℕ). low_bits k y ++ l) (sym (suc-sub-suc h n)) (low-rest n x))

-- the bits of a number whose low m bits and the rest are known
pub low_join : (m n a b : ℕ) → a < 2 ^ m → low_bits (m + n) (a + b * 2 ^ m) ≡ low_bits m a ++ low_bits n b
unfolding low_bits
low_join zero n a b h = ap₂ low_bits (zero-add n) (omega arith)
low_join (suc m) n a b h =
    let e : b * 2 ^ suc m ≡ b * 2 ^ m * 2 = ap (λ (k : ℕ). b * k) (pow-suc 2 m) ∙ sym (mul_assoc b (2 ^ m) 2) in
    let odd : (a + b * 2 ^ suc m) % 2 ≡ a % 2 = omega (arith, e) in
    let half : (a + b * 2 ^ suc m) / 2 ≡ a / 2 + b * 2 ^ m = omega (arith, e) in
    ap (λ (k : ℕ). low_bits k (a + b * 2 ^ suc m)) (suc-add m n)
    ∙ ap₂ (λ (r q : ℕ). eqb r 1 ∷ low_bits (m + n) q) odd half
    ∙ ap {B = List Bool} (λ t. eqb (a % 2) 1 ∷ t) (low_join m n (a / 2) b (omega (arith, pow-suc 2 m)))

pub length-low : (n x : ℕ) → length (low_bits n x) ≡ n
unfolding low_bits
length-low zero x = refl
length-low (suc n) x = ap suc (length-low n (x / 2))

-- too few bits
pub pull-short : (n : ℕ) (l : List Bool) → length l < n → pull n l ≡ short
pull-short zero l h = absurd (not-suc-le-zero h)
pull-short (suc n) [] h = refl
pull-short (suc n) (b ∷ l) h = ap (below b) (pull-short n l (le_of_suc-le-suc h))

-- the low r bits and those above them
pub low_split : (r m x : ℕ) → low_bits (r + m) x ≡ low_bits r (x % 2 ^ r) ++ low_bits m (x / 2 ^ r)
low_split r m x =
    let whole : x % 2 ^ r + x / 2 ^ r * 2 ^ r ≡ x = omega (arith, div-add-mod' x (2 ^ r)) in
    ap (low_bits (r + m)) (sym whole) ∙ low_join r m (x % 2 ^ r) (x / 2 ^ r) (mod-lt x (pow_pos r))

pub low-drop : (r m x : ℕ) (t : List Bool) → drop r (low_bits (r + m) x ++ t) ≡ low_bits m (x / 2 ^ r) ++ t
low-drop r m x t =
    rw (low_split r m x, append_assoc (low_bits r (x % 2 ^ r)) (low_bits m (x / 2 ^ r)) t)
    (drop_at (low_bits r (x % 2 ^ r)) (low_bits m (x / 2 ^ r) ++ t) r (length-low r (x % 2 ^ r)))

-- ---- a number that was found

abbrev found : Pull → Bool
found short = false
found (got v l) = true

abbrev value_of : Pull → ℕ
value_of short = 0
value_of (got v l) = v

abbrev tail_of : Pull → List Bool
tail_of short = []
tail_of (got v l) = l

pub got-value : {v w : ℕ} {l m : List Bool} → got v l ≡ got w m → v ≡ w
got-value e = ap value_of e

pub got_tail : {v w : ℕ} {l m : List Bool} → got v l ≡ got w m → l ≡ m
got_tail e = ap tail_of e

-- it is the number of the bits in front, and fits them
pub pull_is : (n v : ℕ) (l m : List Bool) → pull n l ≡ got v m → (l ≡ low_bits n v ++ m) × (v < 2 ^ n)
unfolding low_bits
pull_is zero v l m e = (got_tail e, omega (arith, got-value e))
pull_is (suc n) v [] m e = absurd (true≢false (sym (ap found e)))
pull_is (suc n) v (b ∷ l) m e = go (λ u k. pull_is n u l k) (pull n l) refl e
  where
    low : (c : Bool) (u : ℕ) → eqb ((bit_value c + 2 * u) % 2) 1 ≡ c
    low false u = let z : (0 + 2 * u) % 2 ≡ 0 = omega arith in ap (λ (r : ℕ). eqb r 1) z
    low true u = let z : (1 + 2 * u) % 2 ≡ 1 = omega arith in ap (λ (r : ℕ). eqb r 1) z

    half : (c : Bool) (u : ℕ) → (bit_value c + 2 * u) / 2 ≡ u
    half false u = omega arith
    half true u = omega arith

    small : (c : Bool) (u : ℕ) → u < 2 ^ n → bit_value c + 2 * u < 2 ^ suc n
    small false u h = omega (arith, pow-suc 2 n)
    small true u h = omega (arith, pow-suc 2 n)

    go : ((u : ℕ) (k : List Bool) → pull n l ≡ got u k → (l ≡ low_bits n u ++ k) × (u < 2 ^ n)) → (p : Pull) → pull n l ≡ p → below b p ≡ got v m
        → (b ∷ l ≡ eqb (v % 2) 1 ∷ (low_bits n (v / 2) ++ m)) × (v < 2 ^ suc n)
    go again short f g = absurd (true≢false (sym (ap found g)))
    go again (got u k) f g =
        let whole : bit_value b + 2 * u ≡ v = got-value g in
        let bit : eqb (v % 2) 1 ≡ b = ap (λ (x : ℕ). eqb (x % 2) 1) (sym whole) ∙ low b u in
        let upper : v / 2 ≡ u = ap (λ (x : ℕ). x / 2) (sym whole) ∙ half b u in (
          (λ i. sym bit i ∷ ((again u k f).0 ∙ ap₂ (λ (x : ℕ) (t : List Bool). low_bits n x ++ t) (sym upper) (got_tail g)) i),
          subst (λ (x : ℕ). x < 2 ^ suc n) whole (small b u (again u k f).1),
        )

pub pull-drop : (n v : ℕ) (l m : List Bool) → pull n l ≡ got v m → m ≡ drop n l
pull-drop n v l m e = sym (ap (drop n) (pull_is n v l m e).0 ∙ drop_at (low_bits n v) m n (length-low n v))

pub pull-long : (n v : ℕ) (l m : List Bool) → pull n l ≡ got v m → n + length m ≡ length l
pull-long n v l m e = sym (ap length (pull_is n v l m e).0 ∙ length-append (low_bits n v) m ∙ ap (λ (k : ℕ). k + length m) (length-low n v))

-- n bits that are 0
pub pull-zeros : (n : ℕ) (l m : List Bool) → pull n l ≡ got 0 m → l ≡ replicate n false ++ m
unfolding low_bits
pull-zeros n l m e = (pull_is n 0 l m e).0 ∙ ap (λ (t : List Bool). t ++ m) (low-none n)
  where
    low-none : (k : ℕ) → low_bits k 0 ≡ replicate k false
    low-none zero = refl
    low-none (suc k) = ap {B = List Bool} (λ t. false ∷ t) (low-none k)
