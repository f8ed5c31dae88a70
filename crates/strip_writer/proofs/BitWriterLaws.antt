-- Laws of the bit writer, and of an operation as a number.
use Rattle.std.proofs.Common.{◌≡◌, ℕ, ◌+◌, ◌-◌, ◌*◌, ◌/◌, ◌%◌, ◌^◌, ◌<◌, ◌≤◌, Bool, true, false, List, [], ◌∷◌, ◌++◌, length, take, drop, set, sym, refl, ap, ◌∙◌, ap₂, append_assoc, append-nil, le_trans, le_refl, mod-eq_of_lt, add-one, arith, lit<, length-set, take-suc-set, drop-set-lt, pow_mono, pow-add, shr_lt, eq-eqb, ne_eqb}
use lib.Arith.{digits_lt}
use Rattle.bits.specs.Bits.{low_bits}
use Rattle.strip.specs.Strip.{plus, minus}
use Rattle.bits.proofs.BitLaws.{low_join, length-low}
use Rattle.number.proofs.BufferLaws.{drop_more}
use Rattle.strip_writer.specs.declared.BitWriter.{BitWriter}
use Rattle.strip_writer.specs.declared.Op.{Op}
use Rattle.strip_writer.specs.Pack.{packed}
use Rattle.strip_writer.specs.Pixels.{op_bits, step_of}
use Rattle.strip_writer.specs.BitWriter.{bytes_with, BitsPut, OpCoded}
use Rattle.strip_writer.proofs.PackLaws.{value_low, packed_byte, packed-last, low-eight}

-- two lists that are the same from n on are the same from any later place on
pub further : (e d : List ℕ) (m n : ℕ) → n ≤ m → drop n e ≡ drop n d → drop m e ≡ drop m d
further e d m n le g =
    let s : n + (m - n) ≡ m = omega arith in
    rw s at (drop_more e d n (m - n) g)

-- ---- an operation as a number

new-bits : (v : ℕ) → low_bits 10 (1 + 4 * v) ≡ true ∷ false ∷ low_bits 8 v
unfolding low_bits
new-bits v =
    let e : 1 + 4 * v ≡ 1 + v * 2 ^ 2 = omega arith in
    ap (low_bits 10) e ∙ low_join 2 8 1 v (lit< tt)

module _ (colour step v : ℕ) where
  pub op_keep : v ≡ colour → OpCoded colour step v (record { count = 1; value = 0; step = step })
  unfolding op_bits step_of low_bits
  op_keep e = record { means = rw (eq-eqb v colour e); few = lit< tt; low = lit< tt; after = rw (eq-eqb v colour e) }

  module _ (ne : v ≡ colour → ⊥) where
    pub op_down : v ≡ minus colour step → OpCoded colour step v (record { count = 3; value = 3; step = step })
    unfolding op_bits step_of low_bits
    op_down e =
        record {
          means = rw (ne_eqb v colour ne, eq-eqb v (minus colour step) e);
          few = lit< tt;
          low = lit< tt;
          after = rw (ne_eqb v colour ne, eq-eqb v (minus colour step) e);
        }

    module _ (nd : v ≡ minus colour step → ⊥) where
      pub op_up : (t : ℕ) → minus 0 step ≡ t → v ≡ plus colour step → OpCoded colour step v (record { count = 3; value = 7; step = t })
      unfolding op_bits step_of low_bits
      op_up t f e =
          record {
            means = rw (ne_eqb v colour ne, ne_eqb v (minus colour step) nd, eq-eqb v (plus colour step) e);
            few = lit< tt;
            low = lit< tt;
            after = rw (ne_eqb v colour ne, ne_eqb v (minus colour step) nd, eq-eqb v (plus colour step) e) (sym f);
          }

      pub op_new : (v ≡ plus colour step → ⊥) → v < 256 → OpCoded colour step v (record { count = 10; value = 1 + 4 * v; step = 1 })
      unfolding op_bits step_of
      op_new e b =
          record {
            means = rw (ne_eqb v colour ne, ne_eqb v (minus colour step) nd, ne_eqb v (plus colour step) e) (new-bits v);
            few = lit< tt;
            low = omega arith;
            after = rw (ne_eqb v colour ne, ne_eqb v (minus colour step) nd, ne_eqb v (plus colour step) e);
          }

-- two operations as one
pub op_joined : (c s v w : ℕ) (one two : Op) → OpCoded c s v one → OpCoded v one.step w two
    → low_bits (one.count + two.count) (one.value + two.value * 2 ^ one.count) ≡ op_bits c s v ++ op_bits v (step_of c s v) w
op_joined c s v w one two f g =
    low_join one.count two.count one.value two.value f.low
    ∙ ap₂ (λ (a b : List Bool). a ++ b) f.means (g.means ∙ ap (λ (t : ℕ). op_bits v t w) f.after)

-- ---- the bit writer

-- a byte is stored at the bit writer's place
store : (d : List ℕ) (at b : ℕ) (t : List ℕ) → at < length d → take at d ++ (b ∷ t) ≡ take (at + 1) (set d at b) ++ t
store d at b t h =
    sym (append_assoc (take at d) (b ∷ []) t) ∙ ap (λ (p : List ℕ). p ++ t) (sym (rw (← add-one) at (take-suc-set {A = ℕ} d at b h)))

pub flush_none : (d : List ℕ) (p : BitWriter) → p.hold < 2 ^ p.bits → BitsPut d d p p []
flush_none d p h = record { same = λ l. refl; on = le_refl p.at; past = refl; whole = refl; low = h }

pub flush_one : (d : List ℕ) (p : BitWriter) → p.hold < 2 ^ p.bits → 8 ≤ p.bits → p.at < length d
    → BitsPut d (set d p.at (p.hold % 256)) p (record { at = p.at + 1; bits = p.bits - 8; hold = p.hold / 256 }) []
unfolding bytes_with
flush_one d p h eight room =
    let b = p.hold % 256 in
    let back : p.bits - 8 + 8 ≡ p.bits = omega arith in
    record {
      same = λ l.
          ap (λ (q : List Bool). take p.at d ++ packed (q ++ l)) (low-eight p.bits p.hold eight)
          ∙ ap (λ (q : List Bool). take p.at d ++ packed q) (append_assoc (low_bits 8 b) (low_bits (p.bits - 8) (p.hold / 256)) l)
          ∙ ap (λ (q : List ℕ). take p.at d ++ q) (packed_byte b (low_bits (p.bits - 8) (p.hold / 256) ++ l) (omega arith))
          ∙ store d p.at b (packed (low_bits (p.bits - 8) (p.hold / 256) ++ l)) room;
      on = omega arith;
      past = drop-set-lt (p.at + 1) d p.at b (omega arith);
      whole = length-set d p.at b;
      low = shr_lt (p.bits - 8) 8 (rw back h);
    }

-- the bits of a number follow those of another
pub join_low : (n x count value : ℕ) → x < 2 ^ n → value < 2 ^ count → x + value * 2 ^ n < 2 ^ (n + count)
join_low n x count value h b =
    let top : value * 2 ^ n + x < 2 ^ count * 2 ^ n = digits_lt b h in
    let e : n + count ≡ count + n = omega arith in
    rw (e, pow-add) (omega (arith, top))

pub bits-held : (d : List ℕ) (p : BitWriter) (count value : ℕ) → p.hold < 2 ^ p.bits → value < 2 ^ count
    → BitsPut d d p (record { at = p.at; bits = p.bits + count; hold = p.hold + value * 2 ^ p.bits }) (low_bits count value)
unfolding bytes_with
bits-held d p count value h b =
    record {
      same = λ l.
          ap (λ (t : List Bool). take p.at d ++ packed t)
          (sym (append_assoc (low_bits p.bits p.hold) (low_bits count value) l) ∙ ap (λ (t : List Bool). t ++ l)
          (sym (low_join p.bits count p.hold value h)));
      on = le_refl p.at;
      past = refl;
      whole = refl;
      low = join_low p.bits p.hold count value h b;
    }

-- bytes go out after bits were put
pub then_flush : (d e f : List ℕ) (p q r : BitWriter) (bits : List Bool) → BitsPut d e p q bits → BitsPut e f q r [] → BitsPut d f p r bits
then_flush d e f p q r bits one two =
    record {
      same = λ l. one.same l ∙ two.same l;
      on = le_trans one.on two.on;
      past = two.past ∙ further e d r.at q.at two.on one.past;
      whole = two.whole ∙ one.whole;
      low = two.low;
    }

-- ---- the last byte

pub finish_none : (d : List ℕ) (p : BitWriter) → p.bits ≡ 0 → take p.at d ≡ bytes_with d p []
unfolding bytes_with low_bits packed
finish_none d p e = sym (ap (λ (n : ℕ). take p.at d ++ packed (low_bits n p.hold ++ [])) e ∙ append-nil (take p.at d))

pub finish_one : (d : List ℕ) (p : BitWriter) → p.hold < 2 ^ p.bits → (p.bits ≡ 0 → ⊥) → p.bits ≤ 7 → p.at < length d
    → take (p.at + 1) (set d p.at p.hold) ≡ bytes_with d p []
unfolding bytes_with
finish_one d p h some few room =
    let len : length (low_bits p.bits p.hold) ≡ p.bits = length-low p.bits p.hold in
    let one : packed (low_bits p.bits p.hold) ≡ p.hold ∷ [] =
    packed-last (low_bits p.bits p.hold) (omega arith) (omega arith) ∙ ap (λ (x : ℕ). x ∷ []) (value_low p.bits p.hold ∙ mod-eq_of_lt h) in
    sym
    (ap (λ (t : List Bool). take p.at d ++ packed t) (append-nil (low_bits p.bits p.hold))
    ∙ ap (λ (t : List ℕ). take p.at d ++ t) one
    ∙ store d p.at p.hold [] room
    ∙ append-nil (take (p.at + 1) (set d p.at p.hold)))

pub hold_byte : (p : BitWriter) → p.hold < 2 ^ p.bits → p.bits ≤ 7 → p.hold < 2 ^ 8
hold_byte p h few = omega (arith, pow_mono few)
