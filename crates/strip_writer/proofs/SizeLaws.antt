-- Laws of how many bits operations take: an operation 1, 3 or 10, whatever the step is, as long as it is 1 or 255.
use Rattle.std.proofs.Common.{◌≡◌, ℕ, ◌+◌, ◌*◌, ◌%◌, ◌^◌, ◌<◌, ◌≤◌, Bool, true, false, cond, eqb, List, [], ◌∷◌, length, sym, refl, ap, ◌∙◌, ap₂, zero-le, arith, lit<, length-append, eqb-true}
use borrow.Author.Tests.{eqb-false}
use Rattle.bits.specs.Bits.{low_bits}
use Rattle.strip.specs.Strip.{plus, minus}
use Rattle.bits.proofs.BitLaws.{length-low}
use Rattle.strip_writer.specs.declared.Op.{Op}
use Rattle.strip_writer.specs.Pixels.{op_bits, step_of, ops_bits}
use Rattle.strip_writer.specs.BitWriter.{OpCoded}
use Rattle.strip_writer.proofs.BitWriterLaws.{op_down, op_up, op_new}

-- ---- at most ten bits

op_few : (v : ℕ) (p q r : Bool) → length (cond p (false ∷ []) (cond q (true ∷ true ∷ false ∷ [])
    (cond r (true ∷ true ∷ true ∷ []) (true ∷ false ∷ low_bits 8 v)))) ≤ 10
op_few v true q r = omega arith
op_few v false true r = omega arith
op_few v false false true = omega arith
op_few v false false false = omega (arith, length-low 8 v)

pub bits-few : (colour step v : ℕ) → length (op_bits colour step v) ≤ 10
unfolding op_bits
bits-few colour step v = op_few v (eqb v colour) (eqb v (minus colour step)) (eqb v (plus colour step))

pub ops_few : (colour step : ℕ) (vs : List ℕ) → length (ops_bits colour step vs) ≤ 10 * length vs
unfolding ops_bits
ops_few colour step [] = zero-le
ops_few colour step (v ∷ vs) =
    omega (arith, length-append (op_bits colour step v) (ops_bits v (step_of colour step v) vs), bits-few colour step v, ops_few v (step_of colour step v) vs)

-- ---- the step is 1 or 255: the bytes that leave the rest 1 by 254

pub record Unit (s : ℕ) : Type 0 where
  pub rest : s % 254 ≡ 1
  pub byte : s < 256

pub unit_one : Unit 1
unit_one = record { rest = refl; byte = lit< tt }

unit_cases : (s : ℕ) (p q r : Bool) → Unit s → Unit (cond p s (cond q s (cond r (minus 0 s) 1)))
unit_cases s true q r u = u
unit_cases s false true r u = u
unit_cases s false false true u = record { rest = omega arith; byte = omega arith }
unit_cases s false false false u = unit_one

pub unit_step : (c s v : ℕ) → Unit s → Unit (step_of c s v)
unfolding step_of
unit_step c s v u = unit_cases s (eqb v c) (eqb v (minus c s)) (eqb v (plus c s)) u

pub unit_after : (c s v t : ℕ) → Unit s → t ≡ step_of c s v → Unit t
unit_after c s v t u e = rw e (unit_step c s v u)

-- with step 255 down and up change places: both take three bits
swapped : (v : ℕ) (p q r : Bool) → length (cond p (false ∷ []) (cond q (true ∷ true ∷ false ∷ [])
    (cond r (true ∷ true ∷ true ∷ []) (true ∷ false ∷ low_bits 8 v))))
    ≡ length (cond p (false ∷ []) (cond r (true ∷ true ∷ false ∷ []) (cond q (true ∷ true ∷ true ∷ []) (true ∷ false ∷ low_bits 8 v))))
swapped v true q r = refl
swapped v false true true = refl
swapped v false true false = refl
swapped v false false true = refl
swapped v false false false = refl

pub op_any_step : (c s v : ℕ) → Unit s → length (op_bits c s v) ≡ length (op_bits c 1 v)
unfolding op_bits
op_any_step c s v u = go (eqb s 1) refl
  where
    go : (p : Bool) → eqb s 1 ≡ p → length (op_bits c s v) ≡ length (op_bits c 1 v)
    go true e = ap (λ (k : ℕ). length (op_bits c k v)) (eqb-true s 1 e)
    go false e =
        let n = eqb-false s 1 e in
        let f : s ≡ 255 = omega (arith, u.rest, u.byte) in
        ap (λ (k : ℕ). length (op_bits c k v)) f ∙ swapped v (eqb v c) (eqb v (minus c 255)) (eqb v (plus c 255))

pub ops_any_step : (c s : ℕ) (l : List ℕ) → Unit s → length (ops_bits c s l) ≡ length (ops_bits c 1 l)
unfolding ops_bits
ops_any_step c s [] u = refl
ops_any_step c s (v ∷ vs) u =
    length-append (op_bits c s v) (ops_bits v (step_of c s v) vs)
    ∙ ap₂ (λ (a b : ℕ). a + b) (op_any_step c s v u)
    (ops_any_step v (step_of c s v) vs (unit_step c s v u) ∙ sym (ops_any_step v (step_of c 1 v) vs (unit_step c 1 v unit_one)))
    ∙ sym (length-append (op_bits c 1 v) (ops_bits v (step_of c 1 v) vs))

-- an operation's bits by its number
pub op_count : (c s v : ℕ) (o : Op) → OpCoded c s v o → o.count ≡ length (op_bits c s v)
op_count c s v o k = sym (length-low o.count o.value) ∙ ap length k.means

-- ---- where the next pixel lies, told by t, the colour less it

module _ (c v t : ℕ) (hc : c < 256) (hv : v < 256) (e : minus c v ≡ t) where
  pub far_down : (s : ℕ) → s < 256 → s % 254 ≡ 1 → 3 ≤ (t + 1) % 2 ^ 8 → v ≡ minus c s → ⊥
  far_down s hs u far f = omega arith

  pub far_up : (s : ℕ) → s < 256 → s % 254 ≡ 1 → 3 ≤ (t + 1) % 2 ^ 8 → v ≡ plus c s → ⊥
  far_up s hs u far f = omega arith

  pub near_down : (s : ℕ) → t ≡ s → v ≡ minus c s
  near_down s f = omega arith

  pub not-down : (s : ℕ) → s < 256 → t < 256 → (t ≡ s → ⊥) → v ≡ minus c s → ⊥
  not-down s hs ht nd f = nd (omega arith)

  module _ (s : ℕ) (hs : s < 256) (u : s % 254 ≡ 1) (ne : v ≡ c → ⊥) (near : (t + 1) % 2 ^ 8 < 3) (nd : t ≡ s → ⊥) where
    other : t + s ≡ 256
    other = omega arith

    pub near_turn : minus 0 s ≡ t
    near_turn = omega (arith, other)

    pub near_up : v ≡ plus c s
    near_up = omega (arith, other)

  pub size_near : (v ≡ c → ⊥) → (t + 1) % 2 ^ 8 < 3 → 3 ≡ length (op_bits c 1 v)
  size_near ne near = go (eqb t 1) refl
    where
      go : (p : Bool) → eqb t 1 ≡ p → 3 ≡ length (op_bits c 1 v)
      go true f = op_count c 1 v _ (op_down c 1 v ne (near_down 1 (eqb-true t 1 f)))
      go false f =
          let nd = eqb-false t 1 f in
          let up = near_up 1 (lit< tt) refl ne near nd in
          op_count c 1 v _ (op_up c 1 v ne (not-down 1 (lit< tt) (omega arith) nd) 255 refl up)

  pub size_far : (v ≡ c → ⊥) → 3 ≤ (t + 1) % 2 ^ 8 → 10 ≡ length (op_bits c 1 v)
  size_far ne far = op_count c 1 v _ (op_new c 1 v ne (far_down 1 (lit< tt) refl far) (far_up 1 (lit< tt) refl far) hv)
