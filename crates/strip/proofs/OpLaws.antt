-- Laws of one operation, by the numbers that its bits are: of the bits l ahead the first two are v, and m come after them.
use Rattle.std.proofs.Common.{◌≡◌, ℕ, zero, suc, ◌+◌, ◌-◌, ◌/◌, ◌%◌, ◌<◌, ◌≤◌, Bool, true, false, cond, eqb, List, [], ◌∷◌, ◌++◌, length, sym, refl, ap, ◌∙◌, true≢false, arith, ne_eqb}
use Rattle.bits.specs.declared.Cursor.{Cursor}
use Rattle.bits.specs.Bits.{low_bits, got, pull, rest}
use Rattle.bits.specs.Reader.{Hands, Shows, One}
use Rattle.bits.proofs.BitLaws.{pull_is, pull-long, pull-short}
use Rattle.bits.proofs.CursorLaws.{hands_shows}
use Rattle.strip.specs.Strip.{plus, minus, refuse, go, index_op, walk_op, run_pixels, run_op, change_op, op_of}
use Rattle.strip.specs.declared.State.{State}
use Rattle.strip.specs.Place.{op_length, second_bit, run_ahead, LeadsTo}

-- ---- the first bits

-- the tail of a list of bits
abbrev tail_of : List Bool → List Bool
tail_of [] = []
tail_of (b ∷ l) = l

module _ (v : ℕ) (l m : List Bool) (head : pull 2 l ≡ got v m) where
  two-bits : l ≡ eqb (v % 2) 1 ∷ eqb (v / 2 % 2) 1 ∷ m
  unfolding low_bits
  two-bits = (pull_is 2 v l m head).0

  -- the first is 1, and the second is known
  one-and : One l → (x : ℕ) → v / 2 ≡ x → l ≡ true ∷ eqb x 1 ∷ m
  one-and one x e =
      let few : v < 4 = (pull_is 2 v l m head).1 in
      let same : v / 2 % 2 ≡ x = omega (arith, e) in
      one.1 ∙ ap (λ (t : List Bool). true ∷ tail_of t) (sym one.1 ∙ two-bits ∙ ap (λ (y : ℕ). eqb (v % 2) 1 ∷ eqb y 1 ∷ m) same)

-- ---- operations whose bits are all there

pub op_keep : (second : Bool) (w c s : ℕ) (l : List Bool) → op_of second w c s (false ∷ l) ≡ go 0 c s l
op_keep second w c s l = refl

module _ (w c s v : ℕ) (l m : List Bool) (head : pull 2 l ≡ got v m) (one : One l) where
  pub op_index : (second : Bool) (x : ℕ) (t : List Bool) → v / 2 ≡ 0 → pull w m ≡ got x t → op_of second w c s l ≡ go 0 x 1 t
  op_index second x t e p = ap (op_of second w c s) (one-and v l m head one 0 e) ∙ ap index_op p

  pub op_walk : (x : ℕ) (t : List Bool) → v / 2 ≡ 1 → pull 1 m ≡ got x t → op_of false w c s l ≡ walk_op c s (eqb (x % 2) 1 ∷ t)
  unfolding low_bits
  op_walk x t e p = ap (op_of false w c s) (one-and v l m head one 1 e) ∙ ap (walk_op c s) (pull_is 1 x m t p).0

  pub op_change : (d : ℕ) (t : List Bool) → v / 2 ≡ 1 → pull 3 m ≡ got d t → (d ≡ 4 → ⊥) → op_of true w c s l ≡ go 0 (minus (plus c d) 4) s t
  op_change d t e p no_run =
      ap (op_of true w c s) (one-and v l m head one 1 e) ∙ ap (change_op c s) p ∙ rw (ne_eqb d 4 no_run)

  -- d = 4 is a run
  pub change_not-run : (d : ℕ) (t : List Bool) → v / 2 ≡ 1 → pull 3 m ≡ got d t → run_ahead true l ≡ false → d ≡ 4 → ⊥
  unfolding low_bits
  change_not-run d t e p no_run four =
      true≢false (sym (ap (run_ahead true) (one-and v l m head one 1 e ∙ ap (λ (k : List Bool). true ∷ true ∷ k)
      ((pull_is 3 d m t p).0 ∙ ap (λ (x : ℕ). low_bits 3 x ++ t) four))) ∙ no_run)

-- a run: 19 is `11` and d = 4
pub op_run : (w c s n : ℕ) (l m t : List Bool) → pull 5 l ≡ got 19 m → pull 8 m ≡ got n t → op_of true w c s l ≡ go (run_pixels n - 1) c s t
unfolding low_bits
op_run w c s n l m t head p = ap (op_of true w c s) (pull_is 5 19 l m head).0 ∙ ap (run_op c s) p

-- ---- operations of which a bit is missing

pub op_none : (second : Bool) (w c s : ℕ) (l : List Bool) → length l < 1 → op_of second w c s l ≡ refuse 7
op_none second w c s [] h = refl
op_none second w c s (b ∷ l) h = absurd (omega arith)

-- one bit alone
pub op_one : (second : Bool) (w c s : ℕ) (l : List Bool) → One l → length l < 2 → op_of second w c s l ≡ refuse 7
op_one second w c s l one h = ap (op_of second w c s) one.1 ∙ cut one.0 (rw one.1 at h)
  where
    cut : (t : List Bool) → length (true ∷ t) < 2 → op_of second w c s (true ∷ t) ≡ refuse 7
    cut [] h = refl
    cut (b ∷ t) h = absurd (omega arith)

pub op_cut : (second : Bool) (w c s v : ℕ) (l m : List Bool) → pull 2 l ≡ got v m → One l → length l < op_length second w (second_bit v)
    → op_of second w c s l ≡ refuse 7
op_cut second w c s v l m head one h = by (v / 2) refl second h
  where
    long : 2 + length m ≡ length l
    long = pull-long 2 v l m head

    none : (t : List Bool) → length t < 1 → walk_op c s t ≡ refuse 7
    none [] h = refl
    none (b ∷ t) h = absurd (omega arith)

    by : (x : ℕ) → v / 2 ≡ x → (second : Bool) → length l < op_length second w (eqb x 1) → op_of second w c s l ≡ refuse 7
    by zero e second h = ap (op_of second w c s) (one-and v l m head one 0 e) ∙ ap index_op (pull-short w m (omega (arith, long)))
    by (suc zero) e false h = ap (op_of false w c s) (one-and v l m head one 1 e) ∙ none m (omega (arith, long))
    by (suc zero) e true h = ap (op_of true w c s) (one-and v l m head one 1 e) ∙ ap (change_op c s) (pull-short 3 m (omega (arith, long)))
    by (suc (suc x)) e second h = absurd (let few : v < 4 = (pull_is 2 v l m head).1 in omega arith)

pub run_cut : (w c s : ℕ) (l m : List Bool) → pull 5 l ≡ got 19 m → length m < 8 → op_of true w c s l ≡ refuse 7
unfolding low_bits
run_cut w c s l m head h = ap (op_of true w c s) (pull_is 5 19 l m head).0 ∙ ap (run_op c s) (pull-short 8 m h)

-- ---- operations at a place

module _ (w : ℕ) (s : List ℕ) (st to : State) (behind : Cursor) (v u : ℕ) (head : Hands 2 v st.cur behind) (one : One (rest s st.cur)) where
  abbrev l : List Bool
  l = rest s st.cur

  abbrev m : List Bool
  m = rest s behind

  -- the n bits behind the first two, which the operation takes
  stands : (n x : ℕ) → Hands (2 + n) u st.cur to.cur → (n ≤ behind.bits → Shows n x behind) → pull n m ≡ got x (rest s to.cur)
  stands n x taken seen = hands_shows 2 n v u x st.cur behind to.cur head taken (seen (omega (arith, head.fewer, taken.fewer))) s

  index-leads : (second : Bool) (x : ℕ) → Hands (2 + w) u st.cur to.cur → (w ≤ behind.bits → Shows w x behind) → v / 2 ≡ 0
      → to.colour ≡ x → to.step ≡ 1 → LeadsTo second w s st to
  index-leads second x taken seen e ec es =
      op_index w st.colour st.step v l m (head.front s) one second x (rest s to.cur) e (stands w x taken seen)
      ∙ (λ i. go 0 (sym ec i) (sym es i) (rest s to.cur))

  few : v < 4
  few = (pull_is 2 v l m (head.front s)).1

  -- an index, or what the method has behind `11`, which gives this colour and this step
  op_leads : (second : Bool) (colour step index : ℕ) → (w ≤ behind.bits → Shows w index behind)
      → (Hands (op_length second w true) u st.cur to.cur → v / 2 ≡ 1 → to.colour ≡ colour → to.step ≡ step → LeadsTo second w s st to)
      → Hands (op_length second w (second_bit v)) u st.cur to.cur → to.colour ≡ cond (second_bit v) colour index → to.step ≡ cond (second_bit v) step 1
      → LeadsTo second w s st to
  op_leads second colour step index at-w method = by (v / 2) refl
    where
      by : (x : ℕ) → v / 2 ≡ x → Hands (op_length second w (eqb x 1)) u st.cur to.cur → to.colour ≡ cond (eqb x 1) colour index
          → to.step ≡ cond (eqb x 1) step 1 → LeadsTo second w s st to
      by zero e taken ec es = index-leads second index taken at-w e ec es
      by (suc zero) e taken ec es = method taken e ec es
      by (suc (suc x)) e taken ec es = absurd (omega (arith, few))

  module _ (turned walked sign index : ℕ) (et : turned ≡ cond (eqb sign 1) (minus 0 st.step) st.step) (ew : walked ≡ minus st.colour turned)
      (at_1 : 1 ≤ behind.bits → Shows 1 sign behind) (at-w : w ≤ behind.bits → Shows w index behind) where
    walk-leads : Hands 3 u st.cur to.cur → v / 2 ≡ 1 → to.colour ≡ walked → to.step ≡ turned → LeadsTo false w s st to
    walk-leads taken e ec es =
        let p = stands 1 sign taken at_1 in
        op_walk w st.colour st.step v l m (head.front s) one sign t e p ∙ walking sign (pull_is 1 sign m t p).1 et
      where
        t : List Bool
        t = rest s to.cur

        walking : (x : ℕ) → x < 2 → turned ≡ cond (eqb x 1) (minus 0 st.step) st.step
            → walk_op st.colour st.step (eqb (x % 2) 1 ∷ t) ≡ go 0 to.colour to.step t
        walking zero h f = λ i. go 0 ((ap (minus st.colour) (sym f) ∙ sym ew ∙ sym ec) i) ((sym f ∙ sym es) i) t
        walking (suc zero) h f = λ i. go 0 ((ap (minus st.colour) (sym f) ∙ sym ew ∙ sym ec) i) ((sym f ∙ sym es) i) t
        walking (suc (suc x)) h f = absurd (omega arith)

    pub first-leads : Hands (op_length false w (second_bit v)) u st.cur to.cur → to.colour ≡ cond (second_bit v) walked index
        → to.step ≡ cond (second_bit v) turned 1 → LeadsTo false w s st to
    first-leads = op_leads false walked turned index at-w walk-leads

  module _ (changed d index : ℕ) (ew : changed ≡ minus (plus st.colour d) 4) (no_run : run_ahead true l ≡ false)
      (at_3 : 3 ≤ behind.bits → Shows 3 d behind) (at-w : w ≤ behind.bits → Shows w index behind) where
    change_leads : Hands 5 u st.cur to.cur → v / 2 ≡ 1 → to.colour ≡ changed → to.step ≡ st.step → LeadsTo true w s st to
    change_leads taken e ec es =
        let p = stands 3 d taken at_3 in
        op_change w st.colour st.step v l m (head.front s) one d (rest s to.cur) e p
        (change_not-run w st.colour st.step v l m (head.front s) one d (rest s to.cur) e p no_run)
        ∙ (λ i. go 0 ((sym ew ∙ sym ec) i) (sym es i) (rest s to.cur))

    pub second-leads : Hands (op_length true w (second_bit v)) u st.cur to.cur → to.colour ≡ cond (second_bit v) changed index
        → to.step ≡ cond (second_bit v) st.step 1 → LeadsTo true w s st to
    second-leads = op_leads true changed st.step index at-w change_leads
