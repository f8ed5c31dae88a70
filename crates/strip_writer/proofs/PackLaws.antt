-- Laws of bits packed into bytes.
use Rattle.std.proofs.Common.{◌≡◌, ℕ, zero, suc, ◌+◌, ◌-◌, ◌*◌, ◌/◌, ◌%◌, ◌^◌, ◌<◌, ◌≤◌, Bool, true, false, eqb, List, [], ◌∷◌, ◌++◌, length, sym, refl, ap, ◌∙◌, ap₂, append-nil, add-zero, mod-eq_of_lt, suc-add, zero-add, add-one, arith, eq-eqb, ne_eqb}
use native.Mathlib.Nat.{mod-one}
use lib.Pow.{mod-pow-add}
use Rattle.bits.specs.Bits.{bit_value, low_bits, bits_of}
use Rattle.bits.proofs.BitLaws.{low_join, bit0}
use Rattle.strip_writer.specs.Pack.{value_of, packed}

pub value_low : (n x : ℕ) → value_of (low_bits n x) ≡ x % 2 ^ n
unfolding low_bits
value_low zero x = sym (mod-one x)
value_low (suc n) x =
    ap (λ (k : ℕ). bit_value (eqb (x % 2) 1) + 2 * k) (value_low n (x / 2)) ∙ omega (arith, bit0 x, rw add-one at (mod-pow-add x n 1))

-- a byte's bits are packed into that byte
pub packed_byte : (b : ℕ) (l : List Bool) → b < 256 → packed (low_bits 8 b ++ l) ≡ b ∷ packed l
unfolding packed low_bits
packed_byte b l h = ap (λ (k : ℕ). k ∷ packed l) (value_low 8 b ∙ mod-eq_of_lt h)

bit_of : (b : Bool) (v : ℕ) → eqb ((bit_value b + 2 * v) % 2) 1 ≡ b
bit_of true v = eq-eqb ((1 + 2 * v) % 2) 1 (omega arith)
bit_of false v = ne_eqb ((0 + 2 * v) % 2) 1 (λ (e : (0 + 2 * v) % 2 ≡ 1). omega arith)

half_of : (b : Bool) (v : ℕ) → (bit_value b + 2 * v) / 2 ≡ v
half_of true v = omega arith
half_of false v = omega arith

pub low-front : (l : List Bool) (m : ℕ) → low_bits (length l + m) (value_of l) ≡ l ++ low_bits m 0
unfolding low_bits
low-front [] m = ap (λ (k : ℕ). low_bits k 0) (zero-add m)
low-front (b ∷ l) m =
    ap (λ (k : ℕ). low_bits k (bit_value b + 2 * value_of l)) (suc-add (length l) m)
    ∙ ap₂ (λ (x : Bool) (t : List Bool). x ∷ t) (bit_of b (value_of l)) (ap (low_bits (length l + m)) (half_of b (value_of l)) ∙ low-front l m)

-- what the bytes read as: the bits that were packed, and some more
pub record Padded (l : List Bool) : Type 0 where
  pub pad : List Bool
  pub same : bits_of (packed l) ≡ l ++ pad

last_byte : (l : List Bool) (m : ℕ) → length l + m ≡ 8 → low_bits 8 (value_of l) ++ [] ≡ l ++ low_bits m 0
last_byte l m e = append-nil _ ∙ ap (λ (k : ℕ). low_bits k (value_of l)) (sym e) ∙ low-front l m

whole_byte : (l t : List Bool) → length l ≡ 8 → low_bits 8 (value_of l) ++ t ≡ l ++ t
unfolding low_bits
whole_byte l t e =
    ap (λ (q : List Bool). q ++ t) (sym (append-nil (low_bits 8 (value_of l))) ∙ last_byte l 0 (add-zero (length l) ∙ e) ∙ append-nil l)

pub padded : (l : List Bool) → Padded l
unfolding packed bits_of
padded [] = record { pad = []; same = refl }
padded (a ∷ []) = record { pad = low_bits 7 0; same = last_byte (a ∷ []) 7 refl }
padded (a ∷ b ∷ []) = record { pad = low_bits 6 0; same = last_byte (a ∷ b ∷ []) 6 refl }
padded (a ∷ b ∷ c ∷ []) = record { pad = low_bits 5 0; same = last_byte (a ∷ b ∷ c ∷ []) 5 refl }
padded (a ∷ b ∷ c ∷ d ∷ []) = record { pad = low_bits 4 0; same = last_byte (a ∷ b ∷ c ∷ d ∷ []) 4 refl }
padded (a ∷ b ∷ c ∷ d ∷ e ∷ []) = record { pad = low_bits 3 0; same = last_byte (a ∷ b ∷ c ∷ d ∷ e ∷ []) 3 refl }
padded (a ∷ b ∷ c ∷ d ∷ e ∷ f ∷ []) = record { pad = low_bits 2 0; same = last_byte (a ∷ b ∷ c ∷ d ∷ e ∷ f ∷ []) 2 refl }
padded (a ∷ b ∷ c ∷ d ∷ e ∷ f ∷ g ∷ []) = record { pad = low_bits 1 0; same = last_byte (a ∷ b ∷ c ∷ d ∷ e ∷ f ∷ g ∷ []) 1 refl }
padded (a ∷ b ∷ c ∷ d ∷ e ∷ f ∷ g ∷ h ∷ l) =
    let p = padded l in
    record {
      pad = p.pad;
      same = whole_byte (a ∷ b ∷ c ∷ d ∷ e ∷ f ∷ g ∷ h ∷ []) (bits_of (packed l)) refl ∙ ap
          (λ (t : List Bool). a ∷ b ∷ c ∷ d ∷ e ∷ f ∷ g ∷ h ∷ t) p.same;
    }

pub length-packed : (l : List Bool) → length (packed l) ≡ (length l + 7) / 8
unfolding packed
length-packed [] = refl
length-packed (a ∷ []) = refl
length-packed (a ∷ b ∷ []) = refl
length-packed (a ∷ b ∷ c ∷ []) = refl
length-packed (a ∷ b ∷ c ∷ d ∷ []) = refl
length-packed (a ∷ b ∷ c ∷ d ∷ e ∷ []) = refl
length-packed (a ∷ b ∷ c ∷ d ∷ e ∷ f ∷ []) = refl
length-packed (a ∷ b ∷ c ∷ d ∷ e ∷ f ∷ g ∷ []) = refl
length-packed (a ∷ b ∷ c ∷ d ∷ e ∷ f ∷ g ∷ h ∷ l) = omega (arith, length-packed l)

-- fewer than eight bits
pub packed-last : (l : List Bool) → 1 ≤ length l → length l ≤ 7 → packed l ≡ value_of l ∷ []
unfolding packed
packed-last [] one few = absurd (omega arith)
packed-last (a ∷ []) one few = refl
packed-last (a ∷ b ∷ []) one few = refl
packed-last (a ∷ b ∷ c ∷ []) one few = refl
packed-last (a ∷ b ∷ c ∷ d ∷ []) one few = refl
packed-last (a ∷ b ∷ c ∷ d ∷ e ∷ []) one few = refl
packed-last (a ∷ b ∷ c ∷ d ∷ e ∷ f ∷ []) one few = refl
packed-last (a ∷ b ∷ c ∷ d ∷ e ∷ f ∷ g ∷ []) one few = refl
packed-last (a ∷ b ∷ c ∷ d ∷ e ∷ f ∷ g ∷ h ∷ l) one few = absurd (omega arith)

-- a byte from the bits of a longer number
pub low-eight : (n x : ℕ) → 8 ≤ n → low_bits n x ≡ low_bits 8 (x % 256) ++ low_bits (n - 8) (x / 256)
low-eight n x h =
    let e : n ≡ 8 + (n - 8) = omega arith in
    let f : x ≡ x % 256 + x / 256 * 2 ^ 8 = omega arith in
    ap₂ (λ (k y : ℕ). low_bits k y) e f ∙ low_join 8 (n - 8) (x % 256) (x / 256) (omega arith)
