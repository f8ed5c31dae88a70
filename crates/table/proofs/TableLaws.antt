-- Laws of strip tables: one offset more, and what a right table says of each of its offsets.
use Rattle.std.proofs.Common.{◌≡◌, refl, sym, ap, ◌∙◌, Bool, true, false, ◌&&◌, cond, true≢false, List, ℕ, zero, suc, ◌+◌, ◌-◌, ◌≤◌, ◌<◌, arith, leb-true, ltb-true, le-leb, leb, ltb}
use mathlib.Core.Logic.{by_cases}
use native.Mathlib.Decide.{ℕ_discrete}
use borrow.Author.Tests.{lt-leb}
use Rattle.number.proofs.BoolLaws.{and_left, and_right}
use Rattle.table.specs.Table.{table_end, offset_at, offset_right, bodiless, offsets_right, table_right}

-- a right offset, as numbers
pub right_offset : (low size before offset : ℕ) → offset_right low size before offset ≡ true → (low ≤ offset) × (offset < size) × (before < offset)
unfolding offset_right
right_offset low size before offset h =
    let first = and_left (leb low offset && ltb offset size) (ltb before offset) h in (
      leb-true _ _ (and_left (leb low offset) (ltb offset size) first),
      ltb-true _ _ (and_right (leb low offset) (ltb offset size) first),
      ltb-true _ _ (and_right (leb low offset && ltb offset size) (ltb before offset) h),
    )

module _ (mask : Bool) (s : List ℕ) (b low size : ℕ) where
  pub offsets_none : (k m before : ℕ) → m ≡ 0 → offsets_right mask s b low size k m before ≡ true
  unfolding offsets_right
  offsets_none k zero before e = refl
  offsets_none k (suc m) before e = absurd (omega arith)

  module _ (k m rest before offset : ℕ) (more : m ≡ suc rest) (read : offset ≡ offset_at mask s b k) where
    pub offsets_pass : bodiless mask offset ≡ true → offsets_right mask s b low size k m before ≡ offsets_right mask s b low size (k + 1) rest before
    unfolding offsets_right
    offsets_pass none = rw (more, ← read, none)

    pub offsets_next : bodiless mask offset ≡ false → offset_right low size before offset ≡ true
        → offsets_right mask s b low size k m before ≡ offsets_right mask s b low size (k + 1) rest offset
    unfolding offsets_right
    offsets_next some right = rw (more, ← read, some, right)

    pub offsets_wrong : bodiless mask offset ≡ false → offset_right low size before offset ≡ false → offsets_right mask s b low size k m before ≡ false
    unfolding offsets_right
    offsets_wrong some wrong = rw (more, ← read, some, wrong)

  -- what a table that is right says of the offset of strip t: it is below the size, and the offsets after it are right
  module _ (t : ℕ) (some : bodiless mask (offset_at mask s b t) ≡ false) where
    abbrev After : ℕ → Type 0
    After end = (offset_at mask s b t < size) × (offsets_right mask s b low size (t + 1) (end - (t + 1)) (offset_at mask s b t) ≡ true)

    pub offsets_at : (m k before : ℕ) → offsets_right mask s b low size k m before ≡ true → k ≤ t → t < k + m → After (k + m)
    unfolding offsets_right
    offsets_at zero k before h le lt = absurd (omega arith)
    offsets_at (suc m) k before h le lt =
        by_cases (ℕ_discrete k t)
        (λ e. here (bodiless mask (offset_at mask s b k)) refl e h)
        (λ e. later (bodiless mask (offset_at mask s b k)) h (λ from g. offsets_at m (k + 1) from g (omega arith) (omega arith)))
      where
        here : (q : Bool) → bodiless mask (offset_at mask s b k) ≡ q → k ≡ t
            → cond q (offsets_right mask s b low size (k + 1) m before) (offset_right low size before (offset_at mask s b k) && offsets_right mask s b low size
            (k + 1) m (offset_at mask s b k)) ≡ true
            → After (k + suc m)
        here true eq e h = absurd (true≢false (sym eq ∙ ap (λ (i : ℕ). bodiless mask (offset_at mask s b i)) e ∙ some))
        here false eq e h =
            let right = right_offset low size before _ (and_left _ (offsets_right mask s b low size (k + 1) m (offset_at mask s b k)) h) in
            let next = and_right (offset_right low size before (offset_at mask s b k)) _ h in
            let left : m ≡ k + suc m - (t + 1) = omega arith in
            (rw e at right.1, rw (e, left) at next)

        later : (q : Bool)
            → cond q (offsets_right mask s b low size (k + 1) m before) (offset_right low size before (offset_at mask s b k) && offsets_right mask s b low size
            (k + 1) m (offset_at mask s b k)) ≡ true
            → ((from : ℕ) → offsets_right mask s b low size (k + 1) m from ≡ true → After (k + 1 + m)) → After (k + suc m)
        later q h ih =
            let same : k + 1 + m ≡ k + suc m = omega arith in
            rw same at (go q h)
          where
            go : (q : Bool)
                → cond q (offsets_right mask s b low size (k + 1) m before)
                (offset_right low size before (offset_at mask s b k) && offsets_right mask s b low size (k + 1) m (offset_at mask s b k)) ≡ true
                → After (k + 1 + m)
            go true h = ih before h
            go false h = ih (offset_at mask s b k) (and_right (offset_right low size before (offset_at mask s b k)) _ h)

-- the two tests of a whole table
module _ (mask : Bool) (n : ℕ) (s : List ℕ) (b z low : ℕ) (end : low ≡ table_end mask n) where
  pub table-short : z - b < low → false ≡ table_right mask n s b z
  unfolding table_right
  table-short h = rw (← end, lt-leb low (z - b) h)

  pub table_fits : low ≤ z - b → table_right mask n s b z ≡ offsets_right mask s b low (z - b) 0 n 0
  unfolding table_right
  table_fits h = rw (← end, le-leb low (z - b) h)

module _ (mask : Bool) (n : ℕ) (s : List ℕ) (b z : ℕ) (right : table_right mask n s b z ≡ true) where
  pub table-room : table_end mask n ≤ z - b
  unfolding table_right
  table-room = leb-true _ _ (and_left (leb (table_end mask n) (z - b)) _ right)

  pub table_at : (k : ℕ) → k < n → bodiless mask (offset_at mask s b k) ≡ false
      → (offset_at mask s b k < z - b) × (offsets_right mask s b (table_end mask n) (z - b) (k + 1) (n - (k + 1)) (offset_at mask s b k) ≡ true)
  unfolding table_right
  table_at k lt some =
      let all = and_right (leb (table_end mask n) (z - b)) _ right in
      let end : 0 + n ≡ n = omega arith in
      rw end at (offsets_at mask s b (table_end mask n) (z - b) k some n 0 0 all (omega arith) (omega arith))
