-- Laws of the rows of a mask strip: an operation, what it gives, and going on from one place to the next.
use Rattle.std.proofs.Common.{◌≡◌, refl, sym, ap, ap₂, ◌∙◌, subst, Bool, cond, List, [], ◌∷◌, ◌++◌, append-nil, ℕ, zero, suc, ◌+◌, ◌-◌, ◌≤◌, ◌<◌, not-suc-le-zero, add-one, arith, lt-ltb, le-ltb, length, take, drop, replicate, get_or, length-drop, drop_of_length-le, ltb, drop-cons, drop-drop, Result, Ok, Err}
use native.Mathlib.Nat.{sub-zero}
use Rattle.strip.specs.Strip.{Strip, refused, values, made_of, onto, prepend, Filled}
use Rattle.strip.proofs.StripLaws.{prepend-none, prepend-onto, prepend-prepend, made-prepend}
use Rattle.plane.specs.declared.Rows.{Rows}
use Rattle.plane.specs.declared.Rows.TheVariants.{Literals, Copies}
use Rattle.plane.specs.Mask.{Pending, literals, copies, rows_in, pending_of, rows_of, RowsAt}

pub rows_done : (t : List ℕ) (n : ℕ) (p : Pending) → n ≡ 0 → rows_of t n p ≡ values []
unfolding rows_of
rows_done [] zero p e = refl
rows_done (b ∷ t) zero p e = refl
rows_done t (suc n) p e = absurd (omega arith)

rows_end : (t : List ℕ) (n : ℕ) (p : Pending) → 0 < n → t ≡ [] → rows_of t n p ≡ refused 7
unfolding rows_of
rows_end t zero p h e = absurd (not-suc-le-zero h)
rows_end t (suc n) p h e = ap (λ (y : List ℕ). rows_of y (suc n) p) e

-- an operation byte comes first
rows_op : (t u : List ℕ) (b n : ℕ) → t ≡ b ∷ u → 0 < n → rows_of t n (literals 0) ≡ cond (ltb n (rows_in b)) (refused 8) (rows_of u n (pending_of b))
unfolding rows_of
rows_op t u b zero e h = absurd (not-suc-le-zero h)
rows_op t u b (suc n) e h = ap (λ (y : List ℕ). rows_of y (suc n) (literals zero)) e

module _ (t u : List ℕ) (b : ℕ) (e : t ≡ b ∷ u) where
  module _ (n : ℕ) (more : 0 < n) where
    rows_past : n < rows_in b → rows_of t n (literals 0) ≡ refused 8
    rows_past lt = rows_op t u b n e more ∙ ap (λ (q : Bool). cond q (refused 8) (rows_of u n (pending_of b))) (lt-ltb n (rows_in b) lt)

    rows_asked : rows_in b ≤ n → rows_of t n (literals 0) ≡ rows_of u n (pending_of b)
    rows_asked le = rows_op t u b n e more ∙ ap (λ (q : Bool). cond q (refused 8) (rows_of u n (pending_of b))) (le-ltb n (rows_in b) le)

    pub past-literals : b < 0x80 → n < b → rows_of t n (literals 0) ≡ refused 8
    past-literals low lt = rows_past (rw (lt-ltb b 0x80 low) lt)

    pub past-copies : 0x80 ≤ b → n < b - 0x80 → rows_of t n (literals 0) ≡ refused 8
    past-copies high lt = rows_past (rw (le-ltb b 0x80 high) lt)

    pub asks_literals : b < 0x80 → b ≤ n → rows_of t n (literals 0) ≡ rows_of u n (literals b)
    asks_literals low le = rows_asked (rw (lt-ltb b 0x80 low) le) ∙ rw (lt-ltb b 0x80 low)

    pub asks_copies : 0x80 ≤ b → b - 0x80 ≤ n → rows_of t n (literals 0) ≡ rows_of u n (copies (b - 0x80))
    asks_copies high le = rows_asked (rw (le-ltb b 0x80 high) le) ∙ rw (le-ltb b 0x80 high)

  pub rows_copies : (n m : ℕ) → 0 < n → rows_of t n (copies m) ≡ prepend (replicate m b) (rows_of u (n - m) (literals 0))
  unfolding rows_of
  rows_copies zero m h = absurd (not-suc-le-zero h)
  rows_copies (suc n) m h = ap (λ (y : List ℕ). rows_of y (suc n) (copies m)) e

-- a list from a place on, where there is a byte
pub from_at : (s : List ℕ) (at : ℕ) → at < length s → drop at s ≡ get_or s at 0 ∷ drop (at + 1) s
from_at s at h = rw (add-one, drop-cons s at 0 h)

-- ---- literal rows

rows_literals : (n k : ℕ) (t : List ℕ) → n ≤ k → n ≤ length t → rows_of t k (literals n) ≡ prepend (take n t) (rows_of (drop n t) (k - n) (literals 0))
unfolding rows_of
rows_literals zero k t le room = prepend-none (rows_of t k (literals 0)) ∙ ap (λ (j : ℕ). prepend [] (rows_of t j (literals 0))) (sym (sub-zero k))
rows_literals (suc n) zero t le room = absurd (not-suc-le-zero le)
rows_literals (suc n) (suc k) [] le room = absurd (not-suc-le-zero room)
rows_literals (suc n) (suc k) (b ∷ t) le room =
    let same : k - n ≡ suc k - suc n = omega arith in
    let later = rows_of (drop n t) (k - n) (literals 0) in
    ap (onto b) (rows_literals n k t (omega arith) (omega arith))
    ∙ prepend-none (onto b (prepend (take n t) later))
    ∙ prepend-onto [] b (prepend (take n t) later)
    ∙ prepend-prepend (b ∷ []) (take n t) later
    ∙ ap (λ (j : ℕ). prepend (b ∷ take n t) (rows_of (drop n t) j (literals 0))) same

rows_short : (n k : ℕ) (t : List ℕ) → n ≤ k → length t < n → rows_of t k (literals n) ≡ refused 7
unfolding rows_of
rows_short zero k t le few = absurd (not-suc-le-zero few)
rows_short (suc n) zero t le few = absurd (not-suc-le-zero le)
rows_short (suc n) (suc k) [] le few = refl
rows_short (suc n) (suc k) (b ∷ t) le few = ap (onto b) (rows_short n k t (omega arith) (omega arith))

-- ---- the operation at a place

module _ (s : List ℕ) (at k : ℕ) (pos : 1 ≤ k) where
  pub at_end : length s ≤ at → RowsAt s at k (Err 7)
  at_end h = rows_end (drop at s) k (literals 0) pos (drop_of_length-le s h)

  module _ (here : at < length s) where
    abbrev op : ℕ
    op = get_or s at 0

    abbrev u : List ℕ
    u = drop (at + 1) s

    starts : drop at s ≡ op ∷ u
    starts = from_at s at here

    size : length u ≡ length s - (at + 1)
    size = length-drop (at + 1) s

    pub at_past-literals : op < 0x80 → k < op → RowsAt s at k (Err 8)
    at_past-literals low h = past-literals (drop at s) u op starts k pos low h

    pub at_short-literals : op < 0x80 → op ≤ k → length s - at - 1 < op → RowsAt s at k (Err 7)
    at_short-literals low le few = asks_literals (drop at s) u op starts k pos low le ∙ rows_short op k u le (omega (arith, size))

    pub at_literals : op < 0x80 → op ≤ k → op ≤ length s - at - 1 → RowsAt s at k (Ok (Literals op))
    at_literals low le room = (
      le,
      omega arith,
      asks_literals (drop at s) u op starts k pos low le
          ∙ rows_literals op k u le (omega (arith, size))
          ∙ ap (λ (t : List ℕ). prepend (take op u) (rows_of t (k - op) (literals 0))) (drop-drop op (at + 1) s),
    )

    pub at_past-copies : 0x80 ≤ op → k < op - 0x80 → RowsAt s at k (Err 8)
    at_past-copies high h = past-copies (drop at s) u op starts k pos high h

    pub at_short-copies : 0x80 ≤ op → op - 0x80 ≤ k → length s - at - 1 < 1 → RowsAt s at k (Err 7)
    at_short-copies high le few =
        let end : length s ≤ at + 1 = omega arith in
        asks_copies (drop at s) u op starts k pos high le ∙ rows_end u k (copies (op - 0x80)) pos (drop_of_length-le s end)

    pub at_copies : 0x80 ≤ op → op - 0x80 ≤ k → 1 ≤ length s - at - 1 → RowsAt s at k (Ok (Copies (op - 0x80)))
    at_copies high le room =
        let next : at + 1 + 1 ≡ at + 2 = omega arith in
        let b = get_or s (at + 1) 0 in (
          le,
          omega arith,
          asks_copies (drop at s) u op starts k pos high le
              ∙ rows_copies u (drop (at + 1 + 1) s) b (from_at s (at + 1) (omega arith)) k (op - 0x80) pos
              ∙ ap (λ (j : ℕ). prepend (replicate (op - 0x80) b) (rows_of (drop j s) (k - (op - 0x80)) (literals 0))) next,
        )

pub rows_as : (s : List ℕ) (at k : ℕ) {r r' : Result Rows ℕ} → r ≡ r' → RowsAt s at k r → RowsAt s at k r'
rows_as s at k e h = subst (λ r. RowsAt s at k r) e h

-- ---- going on from the bytes t to the bytes u, past the rows xs

module _ (t u xs : List ℕ) (k n : ℕ) (gives : rows_of t k (literals 0) ≡ prepend xs (rows_of u (k - n) (literals 0))) where
  pub painted-on : (x : Strip) (out out' : List ℕ) (h i : ℕ) → k ≡ h - i → x ≡ prepend (take i out) (rows_of t k (literals 0)) → take (i + n) out' ≡ take i out
      ++ xs
      → x ≡ prepend (take (i + n) out') (rows_of u (h - (i + n)) (literals 0))
  painted-on x out out' h i e so_far stored =
      let left : k - n ≡ h - (i + n) = omega arith in
      so_far
      ∙ ap (prepend (take i out)) gives
      ∙ prepend-prepend (take i out) xs (rows_of u (k - n) (literals 0))
      ∙ ap₂ (λ (q : List ℕ) (j : ℕ). prepend q (rows_of u j (literals 0))) (sym stored) left

  pub tested_on : (m : Result (Unit {0}) ℕ) → m ≡ made_of (rows_of t k (literals 0)) → m ≡ made_of (rows_of u (k - n) (literals 0))
  tested_on m so_far = so_far ∙ ap made_of gives ∙ made-prepend xs (rows_of u (k - n) (literals 0))

pub rows_all : (t : List ℕ) (p : Pending) (i h : ℕ) (out d : List ℕ) (x : Strip) → i ≡ h → x ≡ prepend (take i out) (rows_of t (h - i) p)
    → drop i out ≡ drop i d
    → Filled h x d out (Ok tt)
rows_all t p i h out d x e f g = (
  f
      ∙ ap (prepend (take i out)) (rows_done t (h - i) p (omega arith))
      ∙ ap values (append-nil (take i out))
      ∙ ap (λ (m : ℕ). values (take m out)) e,
  rw e at g,
)
