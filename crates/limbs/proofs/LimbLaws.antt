-- Laws of the limbs' bytes: what a run of stores leaves, what a limb that is put leaves, and a test of every number below a bound.
use Rattle.std.proofs.Common.{◌≡◌, refl, ap, ap₂, ◌∙◌, Bool, true, false, ◌&&◌, not, List, ℕ, zero, suc, ◌+◌, ◌*◌, ◌-◌, ◌<◌, ◌≤◌, not-suc-le-zero, arith, lt-ltb, le-ltb, le-leb, leb-true, ltb-true, eq-eqb, ne_eqb, ltb, leb, length, get_or, length-set}
use mathlib.Core.Bool.{and-false, or-true}
use mathlib.Core.Logic.{by_cases}
use native.Mathlib.Decide.{dec_lt, ℕ_discrete}
use borrow.Author.Tests.{lt-leb}
use lib.Seq.{sets}
use Rattle.number.proofs.StoreLaws.{sets_below, sets_above}
use Rattle.number.proofs.BoolLaws.{both}
use Rattle.number.specs.Number.{le32, le32_bytes}
use Rattle.limbs.specs.declared.Limb.{Limb}
use Rattle.limbs.specs.Limb.{idle, limb_at, put_limb, head_bytes, each_limb, all, place_right, limb_right}

-- ---- a test of every number below a bound

pub all_at : (n : ℕ) (t : ℕ → Bool) → all n t ≡ true → (i : ℕ) → i < n → t i ≡ true
unfolding all
all_at zero t h i l = absurd (not-suc-le-zero l)
all_at (suc n) t h i l = by_cases (ℕ_discrete i n) (λ e. rw e (both (all n t) (t n) h).1) (λ e. all_at n t (both (all n t) (t n) h).0 i (omega arith))

pub all_false : (n : ℕ) (t : ℕ → Bool) (i : ℕ) → i < n → t i ≡ false → all n t ≡ false
unfolding all
all_false zero t i l h = absurd (not-suc-le-zero l)
all_false (suc n) t i l h =
    by_cases (ℕ_discrete i n) (λ e. ap (◌&&◌ (all n t)) (rw e at h) ∙ and-false (all n t)) (λ e. rw (all_false n t i (omega arith) h))

pub all_of : (n : ℕ) (t : ℕ → Bool) → ((i : ℕ) → i < n → t i ≡ true) → all n t ≡ true
unfolding all
all_of zero t h = refl
all_of (suc n) t h = rw (all_of n t (λ i l. h i (omega arith))) (h n (omega arith))

pub all_more : (n : ℕ) (t : ℕ → Bool) → all n t ≡ true → t n ≡ true → all (suc n) t ≡ true
unfolding all
all_more n t h g = rw (h, g)

pub all_same : (n : ℕ) (t u : ℕ → Bool) → ((i : ℕ) → t i ≡ u i) → all n t ≡ all n u
unfolding all
all_same zero t u h = refl
all_same (suc n) t u h = ap₂ ◌&&◌ (all_same n t u h) (h n)

pub not_leb : (a b : ℕ) → not (leb a b) ≡ ltb b a
not_leb a b = by_cases (dec_lt b a) (λ h. rw (lt-leb a b h, lt-ltb b a h)) (λ h. rw (le-leb a b (omega arith), le-ltb b a (omega arith)))

-- a sum tested as a difference
pub as_difference : (a b n : ℕ) → b ≤ n → leb a (n - b) ≡ leb (a + b) n
as_difference a b n h =
    by_cases (dec_lt (n - b) a) (λ g. rw (lt-leb a (n - b) g, lt-leb (a + b) n (omega arith)))
    (λ g. rw (le-leb a (n - b) (omega arith), le-leb (a + b) n (omega arith)))

-- ---- a limb that is put

module _ (l : List ℕ) (i : ℕ) (x : Limb) where
  pub length-put_limb : length (put_limb l i x) ≡ length l
  unfolding put_limb le32_bytes
  length-put_limb = simp length-set

  -- the bytes of other limbs stay
  pub put_below : (j : ℕ) → j < 16 * i → get_or (put_limb l i x) j 0 ≡ get_or l j 0
  unfolding put_limb le32_bytes
  put_below j h =
      let a = sets l (16 * i) (head_bytes x) in
      let b = sets a (16 * i + 8) (le32_bytes x.start) in
      sets_below (le32_bytes x.place) b (16 * i + 12) j (omega arith) ∙ sets_below (le32_bytes x.start) a (16 * i + 8) j (omega arith)
      ∙ sets_below (head_bytes x) l (16 * i) j h

  pub put_above : (j : ℕ) → 16 * i + 16 ≤ j → get_or (put_limb l i x) j 0 ≡ get_or l j 0
  unfolding put_limb le32_bytes
  put_above j h =
      let a = sets l (16 * i) (head_bytes x) in
      let b = sets a (16 * i + 8) (le32_bytes x.start) in
      sets_above (le32_bytes x.place) b (16 * i + 12) j (omega arith) ∙ sets_above (le32_bytes x.start) a (16 * i + 8) j (omega arith)
      ∙ sets_above (head_bytes x) l (16 * i) j (omega arith)

-- a limb is what its bytes say
pub limb_same : (l m : List ℕ) (i : ℕ) → ((j : ℕ) → 16 * i ≤ j → j < 16 * i + 16 → get_or l j 0 ≡ get_or m j 0) → limb_at l i ≡ limb_at m i
unfolding limb_at
limb_same l m i h =
    rw (
      h (16 * i) (omega arith) (omega arith),
      h (16 * i + 1) (omega arith) (omega arith),
      h (16 * i + 2) (omega arith) (omega arith),
      h (16 * i + 3) (omega arith) (omega arith),
      h (16 * i + 4) (omega arith) (omega arith),
      h (16 * i + 5) (omega arith) (omega arith),
      h (16 * i + 8) (omega arith) (omega arith),
      h (16 * i + 8 + 1) (omega arith) (omega arith),
      h (16 * i + 8 + 2) (omega arith) (omega arith),
      h (16 * i + 8 + 3) (omega arith) (omega arith),
      h (16 * i + 12) (omega arith) (omega arith),
      h (16 * i + 12 + 1) (omega arith) (omega arith),
      h (16 * i + 12 + 2) (omega arith) (omega arith),
      h (16 * i + 12 + 3) (omega arith) (omega arith),
    )

-- ---- each limb below n put

module _ (f : ℕ → Limb → Limb) (l : List ℕ) where
  pub length-each : (n : ℕ) → length (each_limb f n l) ≡ length l
  unfolding each_limb
  length-each zero = refl
  length-each (suc n) = length-put_limb (each_limb f n l) n (f n (limb_at l n)) ∙ length-each n

  pub each_above : (n j : ℕ) → 16 * n ≤ j → get_or (each_limb f n l) j 0 ≡ get_or l j 0
  unfolding each_limb
  each_above zero j h = refl
  each_above (suc n) j h = put_above (each_limb f n l) n (f n (limb_at l n)) j (omega arith) ∙ each_above n j (omega arith)

  -- a limb that is not reached yet
  pub each_later : (n i : ℕ) → n ≤ i → limb_at (each_limb f n l) i ≡ limb_at l i
  each_later n i h = limb_same (each_limb f n l) l i (λ j a b. each_above n j (omega arith))

  pub limb_kept : (n : ℕ) (m : List ℕ) (x : Limb) → m ≡ each_limb f n l → x ≡ limb_at m n → x ≡ limb_at l n
  limb_kept n m x a b = b ∙ ap (λ (k : List ℕ). limb_at k n) a ∙ each_later n n (omega arith)

  -- a turn of the loop, as code makes it: m is the bytes so far, x limb n of them, y what it becomes
  pub each_more : (n : ℕ) (m r : List ℕ) (x y : Limb) → m ≡ each_limb f n l → x ≡ limb_at m n → y ≡ f n x → r ≡ put_limb m n y → r ≡ each_limb f (suc n) l
  unfolding each_limb
  each_more n m r x y a b e d =
      d ∙ ap₂ (λ (k : List ℕ) (z : Limb). put_limb k n z) a (e ∙ ap (f n) (limb_kept n m x a b))

-- ---- as the code reads and writes one limb

pub limb_read : (l : List ℕ) (i s p : ℕ)
    → s ≡ le32 l (16 * i + 8)
    → p ≡ le32 l (16 * i + 12)
    → record {
      active = get_or l (16 * i) 0;
      stopped = get_or l (16 * i + 1) 0;
      noloop = get_or l (16 * i + 2) 0;
      shows = get_or l (16 * i + 3) 0;
      picture = get_or l (16 * i + 4) 0;
      len = get_or l (16 * i + 5) 0;
      start = s;
      place = p;
    }
    ≡ limb_at l i
unfolding limb_at
limb_read l i s p a b = rw (a, b)

-- ---- a lent limb that is right

-- a limb as the code tests it
module _ (n : ℕ) (x : Limb) where
  pub right-idle : x.active ≡ 0 → true ≡ limb_right n x
  unfolding limb_right place_right
  right-idle h = rw (eq-eqb _ _ h)

  pub right_active : (k : ℕ) (inside passed : Bool)
      → (x.active ≡ 0 → ⊥)
      → k ≡ x.len
      → inside ≡ leb (x.start + k) n
      → passed ≡ leb (x.start + k) x.place
      → (leb 1 k && leb k 128 && leb x.start x.place && not passed && inside) ≡ limb_right n x
  unfolding limb_right place_right
  right_active k inside passed h e a b = rw (ne_eqb _ _ h, a, b, not_leb (x.start + k) x.place, e)

  -- what is known of an active limb that is right
  pub record RightIn : Type 0 where
    pub some : 1 ≤ x.len
    pub few : x.len ≤ 128
    pub from : x.start ≤ x.place
    pub to : x.place < x.start + x.len
    pub inside : x.start + x.len ≤ n

  pub right_in : (x.active ≡ 0 → ⊥) → limb_right n x ≡ true → RightIn
  unfolding limb_right place_right
  right_in h e =
      let t1 = leb 1 x.len in
      let t2 = leb x.len 128 in
      let t3 = leb x.start x.place in
      let t4 = ltb x.place (x.start + x.len) in
      let t5 = leb (x.start + x.len) n in
      let all : (t1 && t2 && t3 && t4 && t5) ≡ true = rw (ne_eqb _ _ h) at e in
      let a = both (t1 && t2 && t3 && t4) t5 all in
      let b = both (t1 && t2 && t3) t4 a.0 in
      let c = both (t1 && t2) t3 b.0 in
      let d = both t1 t2 c.0 in
      record {
        some = leb-true 1 x.len d.0;
        few = leb-true x.len 128 d.1;
        from = leb-true x.start x.place c.1;
        to = ltb-true x.place (x.start + x.len) b.1;
        inside = leb-true (x.start + x.len) n a.1;
      }

  pub right_from : RightIn → limb_right n x ≡ true
  unfolding limb_right place_right
  right_from h =
      rw (
        le-leb 1 x.len h.some,
        le-leb x.len 128 h.few,
        le-leb x.start x.place h.from,
        lt-ltb x.place (x.start + x.len) h.to,
        le-leb (x.start + x.len) n h.inside,
        or-true (idle x),
      )
