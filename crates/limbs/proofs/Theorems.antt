-- What an accepted tick leaves, as a reader of document 01 asks for it: limb by limb, the bytes beside them, and that the next tick and the question
-- whether a limb draws are accepted. A payload is at most 4,294,967,296 bytes long here, as any block's is: its size is a u32.
use Rattle.std.proofs.Common.{◌≡◌, sym, ap, ◌∙◌, true, ◌||◌, List, ℕ, ◌+◌, ◌*◌, ◌-◌, ◌<◌, ◌≤◌, arith, le-ltb, le-leb, ne_eqb, leb, length, get_or, length-drop}
use mathlib.Core.Logic.{by_cases}
use native.Mathlib.Decide.{ℕ_discrete}
use Rattle.number.proofs.BoolLaws.{both}
use Rattle.limbs.specs.declared.Limb.{Limb}
use Rattle.limbs.specs.Limb.{idle, limb_at, each_limb, all, place_right, limb_right, places_right, limbs_right, draws_number}
use Rattle.limbs.specs.Tick.{stream, ticked_limb, tick_number, tick_bytes}
use Rattle.limbs.proofs.LimbLaws.{all_at, all_of, length-each, each_above}
use Rattle.limbs.proofs.AfterLaws.{Bytes, Small, limb_small, each-limb, each_unused, each-kept}
use Rattle.limbs.proofs.TickLaws.{tick_idle, ticked_active, ticked_right, tick_accepted, Ticks}

-- limbs that are put right are right
pub limbs_put : (n : ℕ) (f : ℕ → Limb → Limb) (l : List ℕ)
    → 256 ≤ length l
    → ((i : ℕ) → i < 16 → Small (f i (limb_at l i)))
    → ((i : ℕ) → i < 16 → limb_right n (f i (limb_at l i)) ≡ true)
    → limbs_right n (each_limb f 16 l) ≡ true
unfolding limbs_right
limbs_put n f l whole small right =
    all_of 16 (λ i. limb_right n (limb_at (each_limb f 16 l) i)) (λ i h. ap (limb_right n) (each-limb f l i 16 h whole (small i h)) ∙ right i h)

-- ---- an accepted tick
module _ (s l : List ℕ) (v : ℕ) (ok : tick_number s l v ≡ 0) where
  ticks : Ticks s l v
  ticks = tick_accepted s l v ok

  tick_is : tick_bytes s l v ≡ each_limb (λ i. ticked_limb (stream s v)) 16 l
  unfolding tick_bytes
  tick_is = rw ok

  -- as many bytes as were lent, and those past the 16 limbs as they were
  pub tick_length : length (tick_bytes s l v) ≡ length l
  tick_length = ap length tick_is ∙ length-each (λ i. ticked_limb (stream s v)) l 16

  pub tick_rest : (j : ℕ) → 256 ≤ j → get_or (tick_bytes s l v) j 0 ≡ get_or l j 0
  tick_rest j h = ap (λ (m : List ℕ). get_or m j 0) tick_is ∙ each_above (λ i. ticked_limb (stream s v)) l 16 j h

  -- the two bytes of a limb that are not used stay
  pub tick_unused : (i j : ℕ) → i < 16 → 16 * i + 6 ≤ j → j < 16 * i + 8 → get_or (tick_bytes s l v) j 0 ≡ get_or l j 0
  tick_unused i j h a b = ap (λ (m : List ℕ). get_or m j 0) tick_is ∙ each_unused (λ k. ticked_limb (stream s v)) l i 16 h ticks.whole j a b

  module _ (bytes : Bytes l) where
    -- an idle limb keeps every byte
    pub tick_still : (i j : ℕ) → i < 16 → (limb_at l i).active ≡ 0 → 16 * i ≤ j → j < 16 * i + 16 → get_or (tick_bytes s l v) j 0 ≡ get_or l j 0
    tick_still i j h idle a b =
        ap (λ (m : List ℕ). get_or m j 0) tick_is
        ∙ each-kept (λ k. ticked_limb (stream s v)) l i 16 h ticks.whole bytes (sym (tick_idle (stream s v) (limb_at l i) idle)) j a b

    module _ (long : length s ≤ 4294967296) where
      lent-right : (i : ℕ) → i < 16 → limb_right (length s - (v - 6)) (limb_at l i) ≡ true
      unfolding limbs_right
      lent-right i h = all_at 16 (λ k. limb_right (length s - (v - 6)) (limb_at l k)) ticks.right i h

      ticked_small : (i : ℕ) → i < 16 → Small (ticked_limb (stream s v) (limb_at l i))
      ticked_small i h =
          by_cases (ℕ_discrete (limb_at l i).active 0) (λ e. rw (← tick_idle (stream s v) (limb_at l i) e) (limb_small l i bytes))
          (λ e. let r = ticked_active (length s - (v - 6)) (stream s v) (limb_at l i) e (lent-right i h) in record { start = omega arith; place = omega arith })

      -- limb i is the tick of what it was
      pub tick-limb : (i : ℕ) → i < 16 → limb_at (tick_bytes s l v) i ≡ ticked_limb (stream s v) (limb_at l i)
      tick-limb i h = ap (λ (m : List ℕ). limb_at m i) tick_is ∙ each-limb (λ k. ticked_limb (stream s v)) l i 16 h ticks.whole (ticked_small i h)

      -- the next tick is accepted
      pub tick_again : tick_number s (tick_bytes s l v) v ≡ 0
      unfolding tick_number
      tick_again =
          let right : limbs_right (length s - (v - 6)) (tick_bytes s l v) ≡ true =
          ap (limbs_right (length s - (v - 6))) tick_is
          ∙ limbs_put (length s - (v - 6)) (λ k. ticked_limb (stream s v)) l ticks.whole ticked_small
          (λ i h. ticked_right (length s - (v - 6)) (stream s v) (limb_at l i) (lent-right i h)) in
          rw (tick_length, le-ltb (length l) 256 ticks.whole, le-leb 6 v ticks.low, le-leb (v - 6) (length s) ticks.high, length-drop (v - 6) s, right)

-- ---- where a tick is accepted, so is the question whether a limb draws
pub tick_then_draws : (s l : List ℕ) (v i : ℕ) → tick_number s l v ≡ 0 → i ≤ 15 → draws_number l i ≡ 0
unfolding draws_number limbs_right places_right limb_right
tick_then_draws s l v i ok h =
    let n = length s - (v - 6) in
    let right : all 16 (λ k. limb_right n (limb_at l k)) ≡ true = (ticks s l v ok).right in
    let places : all 16 (λ k. place_right (limb_at l k)) ≡ true =
    all_of 16 (λ k. place_right (limb_at l k)) (λ k g. let x = limb_at l k in
    (both (place_right x) (idle x || leb (x.start + x.len) n) (all_at 16 (λ j. limb_right n (limb_at l j)) right k g)).0) in
    rw (le-ltb (length l) 256 (ticks s l v ok).whole, le-leb i 15 h, places)

-- ---- nothing changes where a tick is refused
pub tick_unchanged : (s l : List ℕ) (v : ℕ) → (tick_number s l v ≡ 0 → ⊥) → tick_bytes s l v ≡ l
unfolding tick_bytes
tick_unchanged s l v h = rw (ne_eqb _ _ h)
