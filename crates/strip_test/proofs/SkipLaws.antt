-- Laws of the test's steps: past a row's operations, past what a step gives, and from one place to the next.
use Rattle.std.proofs.Common.{◌≡◌, sym, ap, ap₂, ◌∙◌, subst, Bool, true, false, cond, List, [], ◌∷◌, ◌++◌, ℕ, zero, suc, ◌+◌, ◌-◌, ◌*◌, ◌/◌, ◌%◌, ◌≤◌, ◌<◌, arith, eqb, get_or, length, drop, replicate, Result, Ok, Err}
use Rattle.bits.specs.declared.Cursor.{Cursor}
use Rattle.bits.specs.Bits.{low_bits, rest, Held}
use Rattle.bits.specs.Reader.{Hands}
use Rattle.bits.proofs.BitLaws.{length-low, pull_is, pull-drop, pull-long}
use Rattle.strip.specs.declared.State.{State}
use Rattle.strip.specs.Strip.{made_of}
use Rattle.strip_test.specs.Outcome.{outcome, Skipped, Tested}
use Rattle.strip_test.specs.WholeOps.{Row, nothing, after, three_bits, whole_ops, reach, packed, Rows}
use Rattle.strip.specs.Place.{ahead, Gives, Stepped, kept_by}
use Rattle.strip_test.proofs.WholeOpsLaws.{ops_skipped}
use Rattle.strip.proofs.StripLaws.{made-prepend}
use Rattle.strip.proofs.PlaceLaws.{gives_kept}
use Rattle.strip_test.proofs.OutcomeLaws.{outcome_is}

-- ---- a row is small

abbrev Bounded : Row → ℕ → Type 0
Bounded r n = (r.bits + 2 * r.index ≤ n) × (r.pixels ≤ n) × (r.index ≤ 1)

bounded_none : (n : ℕ) → Bounded nothing n
bounded_none n = (omega arith, omega arith, omega arith)

bounded_after : (j m n : ℕ) (r : Row) → j + m ≤ n → 1 ≤ j → Bounded r m → Bounded (after j r) n
bounded_after j m n r h one s = (omega (arith, s.0), omega (arith, s.1), s.2)

bounded_ops : (second : Bool) (l : List Bool) → Bounded (whole_ops second l) (length l)
unfolding whole_ops
bounded_ops second [] = bounded_none 0
bounded_ops second (false ∷ l) = bounded_after 1 (length l) (suc (length l)) (whole_ops second l) (omega arith) (omega arith) (bounded_ops second l)
bounded_ops second (true ∷ []) = bounded_none 1
bounded_ops second (true ∷ false ∷ l) = (omega arith, omega arith, omega arith)
bounded_ops false (true ∷ true ∷ []) = bounded_none 2
bounded_ops false (true ∷ true ∷ a ∷ l) = bounded_after 3 (length l) (suc (suc (suc (length l)))) (whole_ops false l) (omega arith) (omega arith)
    (bounded_ops false l)
bounded_ops true (true ∷ true ∷ []) = bounded_none 2
bounded_ops true (true ∷ true ∷ a ∷ []) = bounded_none 3
bounded_ops true (true ∷ true ∷ a ∷ b ∷ []) = bounded_none 4
bounded_ops true (true ∷ true ∷ a ∷ b ∷ c ∷ l) = go_on (bounded_ops true l) (eqb (three_bits a b c) 4)
  where
    go_on : Bounded (whole_ops true l) (length l) → (q : Bool) → Bounded (cond q nothing (after 5 (whole_ops true l))) (suc (suc (suc (suc (suc (length l))))))
    go_on again true = bounded_none (suc (suc (suc (suc (suc (length l))))))
    go_on again false = bounded_after 5 (length l) (suc (suc (suc (suc (suc (length l)))))) (whole_ops true l) (omega arith) (omega arith) again

pub index-few : (i w : ℕ) → i ≤ 1 → w ≤ 8 → i * (2 + w) ≤ 10
index-few zero w h le = omega arith
index-few (suc zero) w h le = omega arith
index-few (suc (suc i)) w h le = absurd (omega arith)

-- the row of a byte
module _ (second : Bool) (x : ℕ) where
  abbrev pub found : Row
  found = whole_ops second (low_bits 8 x)

  pub bounds : Bounded found 8
  bounds = subst (Bounded found) (length-low 8 x) (bounded_ops second (low_bits 8 x))

  pub parts : (n : ℕ) → n ≡ packed found → (n % 16 ≡ found.bits) × (n / 16 % 16 ≡ found.pixels) × (n / 256 ≡ found.index)
  parts n e =
      let s0 = bounds.0 in
      let s1 = bounds.1 in
      let s2 = bounds.2 in
      (omega (arith, e), omega (arith, e), omega (arith, e))

-- ---- past a row's operations

-- the next eight bits are x; what its row says is taken
module _ (second : Bool) (w : ℕ) (s : List ℕ) (st to : State) (x u : ℕ) (behind : Cursor) (t : List ℕ) (seen : Hands 8 x st.cur behind)
    (rows : Rows second t) where
  abbrev row : ℕ
  row = get_or t x 0

  abbrev far : ℕ
  far = row % 16 + row / 256 * (2 + w)

  eight : (rest s st.cur ≡ low_bits 8 x ++ rest s behind) × (x < 256)
  eight = pull_is 8 x (rest s st.cur) (rest s behind) (seen.front s)

  said : (row % 16 ≡ (found second x).bits) × (row / 16 % 16 ≡ (found second x).pixels) × (row / 256 ≡ (found second x).index)
  said = parts second x row (rows.row x eight.1)

  far_is : far ≡ reach w (found second x)
  far_is = ap₂ (λ (i j : ℕ). i + j * (2 + w)) said.0 said.2

  pub skip_skipped : Hands far u st.cur to.cur → to.i ≡ st.i + row / 16 % 16 → Skipped second w s st to
  skip_skipped taken ei =
      let l = rest s st.cur in
      let long = pull-long far u l (rest s to.cur) (taken.front s) in
      let split = eight.0 in
      record {
        on = λ k.
            let m : to.i - st.i + k ≡ (found second x).pixels + k = omega (arith, ei, said.1) in
            let lo : reach w (found second x) ≤ length (low_bits 8 x ++ rest s behind) = rw (← split) (omega (arith, far_is, long)) in
            ap₂ (λ (j : ℕ) (q : List Bool). outcome second w j 0 q) m split
            ∙ ops_skipped second w (low_bits 8 x) (rest s behind) k lo
            ∙ ap (outcome second w k 0)
            (ap₂ (λ (j : ℕ) (q : List Bool). drop j q) (sym far_is) (sym split) ∙ sym (pull-drop far u l (rest s to.cur) (taken.front s)));
      }

-- ---- past what gives pixels of one colour

module _ (second : Bool) (w total : ℕ) (s : List ℕ) (st : State) where
  abbrev left : State → Result (Unit {0}) ℕ
  left a = outcome second w (total - a.i) 0 (rest s a.cur)

  made-left : (a : State) → made_of (ahead second w total s a) ≡ left a
  made-left a = outcome_is second w (total - a.i) 0 a.colour a.step (rest s a.cur)

  pub outcome_gives : (to : State) → Gives second w total s st to → left st ≡ left to
  outcome_gives to g = sym (made-left st) ∙ ap made_of g ∙ made-prepend (replicate (to.i - st.i) to.colour) (ahead second w total s to) ∙ made-left to

  pub outcome_stepped : (r : Result State ℕ) → Stepped second w total s st r → Tested second w total s st r
  outcome_stepped (Ok to) h = (h.0, h.1, h.2, outcome_gives to h.3)
  outcome_stepped (Err n) h = sym (made-left st) ∙ ap made_of h

pub kept_went : (second : Bool) (w : ℕ) (s : List ℕ) (st : State) (k : ℕ) (next : Cursor) → Hands k 0 st.cur next → Skipped second w s st (kept_by k next st)
kept_went second w s st k next zeros =
    record {
      on = λ n.
          let total = st.i + k + n in
          let a : st.i + k - st.i + n ≡ total - st.i = omega arith in
          let c : total - (st.i + k) ≡ n = omega arith in
          ap (λ (j : ℕ). outcome second w j 0 (rest s st.cur)) a
          ∙ outcome_gives second w total s st (kept_by k next st) (gives_kept second w total s st k next zeros (omega arith))
          ∙ ap (λ (j : ℕ). outcome second w j 0 (rest s next)) c;
    }

-- ---- one place after another

pub went_on : (second : Bool) (w : ℕ) (s : List ℕ) (a b c : State) → a.i ≤ b.i → b.i ≤ c.i → Skipped second w s a b → Skipped second w s b c → Skipped
    second w s a c
went_on second w s a b c h k f g =
    record {
      on = λ n.
          let e : c.i - a.i + n ≡ b.i - a.i + (c.i - b.i + n) = omega arith in
          ap (λ (j : ℕ). outcome second w j 0 (rest s a.cur)) e ∙ f.on (c.i - b.i + n) ∙ g.on n;
    }

pub went_total : (second : Bool) (w : ℕ) (s : List ℕ) (total : ℕ) (a to : State) → a.i ≤ to.i → to.i ≤ total → Skipped second w s a to
    → outcome second w (total - a.i) 0 (rest s a.cur) ≡ outcome second w (total - to.i) 0 (rest s to.cur)
went_total second w s total a to h k f =
    let e : total - a.i ≡ to.i - a.i + (total - to.i) = omega arith in
    ap (λ (j : ℕ). outcome second w j 0 (rest s a.cur)) e ∙ f.on (total - to.i)

-- the place `st` is the place `from`, with more bits held
module _ (second : Bool) (w total : ℕ) (s : List ℕ) (from st : State) (ei : st.i ≡ from.i) (er : rest s st.cur ≡ rest s from.cur) where
  same_left : left second w total s st from ≡ left second w total s st st
  same_left = λ i. outcome second w (total - sym ei i) 0 (sym er i)

  pub tested_from : (r : Result State ℕ) → Tested second w total s st r → Tested second w total s from r
  tested_from (Ok to) h = let more = h.0 in (omega (arith, more), h.1, h.2, same_left ∙ h.3)
  tested_from (Err n) h = same_left ∙ h

  pub tested_many : (to : State) → Skipped second w s st to → st.i < to.i → to.i ≤ total → Held s to.cur → Tested second w total s from (Ok to)
  tested_many to f some room held = tested_from (Ok to) (some, room, held, went_total second w s total st to (omega arith) room f)

-- ---- the test of a whole strip

-- pixel 0 is the first colour
pub outcome-start : (second : Bool) (w total : ℕ) (l : List Bool) → 1 ≤ total → outcome second w total 1 l ≡ outcome second w (total - 1) 0 l
unfolding outcome
outcome-start second w total l h = let e : total ≡ suc (total - 1) = omega arith in ap (λ (n : ℕ). outcome second w n 1 l) e

pub outcome-end : (second : Bool) (w n : ℕ) (l : List Bool) → n ≡ 0 → outcome second w n 0 l ≡ Ok tt
unfolding outcome
outcome-end second w n l e = ap (λ (k : ℕ). outcome second w k 0 l) e
