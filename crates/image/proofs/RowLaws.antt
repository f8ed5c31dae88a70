-- Laws of the table's rows: one row put cell by cell, and a row offered to one object after another.
use Rattle.std.proofs.Common.{◌≡◌, refl, List, [], ◌∷◌, Bool, true, false, cond, ℕ, ◌+◌, ◌*◌, ◌≤◌, ◌<◌, ◌-◌, arith, rules, length, get_or, Some, None}
use Rattle.std.proofs.lemmas.List.{places}
use borrow.Rule.Slice.PartMut.{put_mid}
use mathlib.Core.Logic.{by_cases}
use native.Mathlib.Decide.{ℕ_discrete}
use Rattle.image.specs.Gathered.{RowPut, takes}
use Rattle.image.specs.Rows.{header_row}

-- cells copied over those from a on
module _ (t cells : List ℕ) (a n : ℕ) (all : length cells ≡ n) (fits : a + n ≤ length t) where
  copied_same : length (put_mid a n t cells) ≡ length t
  copied_same = search (rules, places)

  copied_in : (j : ℕ) → j < n → get_or (put_mid a n t cells) (a + j) 0 ≡ get_or cells j 0
  copied_in j h = search (rules, places)

  copied_below : (i : ℕ) → i < a → get_or (put_mid a n t cells) i 0 ≡ get_or t i 0
  copied_below i h = search (rules, places)

  copied_above : (i : ℕ) → a + n ≤ i → get_or (put_mid a n t cells) i 0 ≡ get_or t i 0
  copied_above i h = search (rules, places)

pub row_copied : (t row : List ℕ) (o : ℕ) → length row ≡ 8 → 8 * o + 8 ≤ length t → RowPut t (put_mid (8 * o) 8 t row) o row
row_copied t row o all fits =
    record {
      same = copied_same t row (8 * o) 8 all fits;
      new = λ j h. copied_in t row (8 * o) 8 all fits j h;
      old = λ q j n h. by_cases (ℕ_discrete (8 * q + j + 1 - 8 * o) 0)
          (λ e. copied_below t row (8 * o) 8 all fits (8 * q + j) (omega arith))
          (λ e. copied_above t row (8 * o) 8 all fits (8 * q + j) (omega arith));
    }

module _ (t₀ row : List ℕ) where
  -- the row is offered to the objects before o
  pub record Offering (t : List ℕ) (o : ℕ) : Type 0 where
    pub same : length t ≡ length t₀
    pub new : (q c : ℕ) → 1 ≤ q → q < o → c < 8 → get_or t (8 * q + c) 0 ≡ cond (takes row t₀ q) (get_or row c 0) (get_or t₀ (8 * q + c) 0)
    pub old : (q c : ℕ) → o ≤ q → c < 8 → get_or t (8 * q + c) 0 ≡ get_or t₀ (8 * q + c) 0

-- ---- the row of an object's header
-- it looks at the header's start alone
pub header-start : (boxes : Bool) (s : List ℕ) (p y z : ℕ) → header_row boxes s (Some (p, y)) ≡ header_row boxes s (Some (p, z))
unfolding header_row
header-start false s p y z = refl
header-start true s p y z = refl

-- with no header it is zero
pub header-none : (boxes : Bool) (s : List ℕ) → 0 ∷ 0 ∷ 0 ∷ 0 ∷ 0 ∷ 0 ∷ 0 ∷ 0 ∷ [] ≡ header_row boxes s None
unfolding header_row
header-none false s = refl
header-none true s = refl
