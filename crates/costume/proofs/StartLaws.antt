-- Laws of the start of an animation.
use Rattle.std.proofs.Common.{◌≡◌, refl, ap, ◌∙◌, Bool, true, false, ◌&&◌, not, cond, List, ℕ, ◌+◌, ◌*◌, ◌-◌, ◌≤◌, arith, leb-true, ltb-true, ltb-false, ltb, leb, eqb, length, Ok}
use borrow.Author.Tests.{not-true}
use Rattle.limbs.specs.Limb.{limbs_right}
use Rattle.limbs.specs.Tick.{command_right, stream}
use Rattle.limbs.proofs.TickLaws.{stream_length, command_in}
use Rattle.number.proofs.BoolLaws.{both}
use Rattle.costume.specs.Record.{mask_of, record_right}
use Rattle.costume.specs.Start.{record_number, offset_at, numbers_right, no_record, offset_right, defined, start_number}
use Rattle.refusal.specs.Answer.{answer_of}
use Rattle.refusal.proofs.AnswerLaws.{accepted}
use Rattle.costume.proofs.RecordLaws.{record_in}

-- ---- the numbers of a call
module _ (s : List ℕ) (t count chore direction : ℕ) where
  -- the record's place in the table lies in the payload
  pub numbers_in : numbers_right s t count chore direction ≡ true → t + 2 * record_number chore direction + 2 ≤ length s
  unfolding numbers_right
  numbers_in h =
      let t1 = leb chore 243 in
      let t2 = leb direction 3 in
      let t3 = ltb (record_number chore direction) count in
      let t4 = leb (t + 2 * count) (length s) in
      let a = both (t1 && t2 && t3) t4 h in
      let b = both (t1 && t2) t3 a.0 in
      let lt = ltb-true (record_number chore direction) count b.1 in
      let le = leb-true (t + 2 * count) (length s) a.1 in
      omega arith

-- what the proof of a start's test cites
pub ruleset test_laws = (stream_length, command_in, numbers_in)

-- ---- a stored offset
module _ (s : List ℕ) (o : ℕ) where
  module _ (n : ℕ) where
    pub offset_record_right : offset_right s o n ≡ true → no_record o ≡ false → record_right s (o - 6) n ≡ true
    unfolding offset_right
    offset_record_right h e = (both (leb 6 o) (record_right s (o - 6) n) (rw e at h)).1

    -- the mask of its record lies in the payload
    pub offset_in : offset_right s o n ≡ true → no_record o ≡ false → (6 ≤ o) × (o - 6 + 2 ≤ length s)
    unfolding offset_right
    offset_in h e = (leb-true 6 o (both (leb 6 o) (record_right s (o - 6) n) (rw e at h)).0, record_in s (o - 6) n (offset_record_right h e))

  pub defined-some : defined s o ≡ true → no_record o ≡ false
  unfolding defined
  defined-some h = not-true (no_record o) (both (not (no_record o)) (not (eqb (mask_of s (o - 6)) 0)) h).0

-- ---- the number of a start, from the tests that the code makes
module _ (s l : List ℕ) (t count v chore direction : ℕ) where
  -- what an accepted start has
  pub record Starts : Type 0 where
    pub whole : 256 ≤ length l
    pub numbers : numbers_right s t count chore direction ≡ true
    pub command : command_right s v ≡ true
    pub limbs : limbs_right (length (stream s v)) l ≡ true
    pub offset : offset_right s (offset_at s t chore direction) (length (stream s v)) ≡ true

  pub start-accepted : start_number s l t count v chore direction ≡ 0 → Starts
  unfolding start_number
  start-accepted ok =
      go (ltb (length l) 256) refl (numbers_right s t count chore direction) refl (command_right s v) refl (limbs_right (length (stream s v)) l) refl
      (offset_right s (offset_at s t chore direction) (length (stream s v))) refl ok
    where
      go : (a : Bool) → ltb (length l) 256 ≡ a → (b : Bool) → numbers_right s t count chore direction ≡ b → (c : Bool) → command_right s v ≡ c
          → (d : Bool) → limbs_right (length (stream s v)) l ≡ d
          → (f : Bool) → offset_right s (offset_at s t chore direction) (length (stream s v)) ≡ f
          → ◌≡◌ {A = ℕ} (cond a 4 (cond (b && c && d && f) 0 15)) 0
          → Starts
      go true p b q c u d w f r h = absurd (omega arith)
      go false p true q true u true w true r h = record { whole = ltb-false _ _ p; numbers = q; command = u; limbs = w; offset = r }
      go false p true q true u true w false r h = absurd (omega arith)
      go false p true q true u false w f r h = absurd (omega arith)
      go false p true q false u d w f r h = absurd (omega arith)
      go false p false q c u d w f r h = absurd (omega arith)

  pub start-tested : Ok tt ≡ answer_of (start_number s l t count v chore direction) → Starts
  start-tested e = start-accepted (accepted _ e)

  -- the record of an accepted start, where its offset stands for one: its mask lies in the payload
  pub start-held : Starts → (o : ℕ) → o ≡ offset_at s t chore direction → no_record o ≡ false → (6 ≤ o) × (o - 6 + 2 ≤ length s)
  start-held a o e = offset_in s o (length (stream s v)) (ap (λ (k : ℕ). offset_right s k (length (stream s v))) e ∙ a.offset)
