-- Laws of rows joined to a plane: what an operation of a body that passes its test leaves to do, and a plane that is cleared first.
use Rattle.std.proofs.Common.{◌≡◌, refl, sym, ap, ◌∙◌, true, false, List, ◌++◌, ℕ, ◌+◌, ◌-◌, ◌≤◌, ◌<◌, arith, eq-eqb, ne_eqb, length, get_or, drop, get_or-drop, drop-drop, drop_at, Ok}
use lib.Bits.{bit_or, or_zero_l}
use lib.ListN.{get_or-append, get_or-replicate}
use Rattle.grid.specs.Grid.{upd, boxed}
use Rattle.grid.specs.Mask.{mask_over, rows_over, Plane}
use Rattle.grid.proofs.Box.{box_below, box_over}
use Rattle.strip.specs.Strip.{Strip, refused, values, prepend}
use Rattle.plane.specs.Mask.{rows_of, literals}
use Rattle.table.specs.Table.{offset_at}
use Rattle.table.specs.Body.{body_of, rows_at, row_values, mask_at}
use Rattle.table.specs.Test.{rows_test, strip_test}
use Rattle.table.proofs.BlockLaws.{not-passed}
use Rattle.load.proofs.BoxLaws.{box_same}

pub passed-values : (x : Strip) → rows_test x ≡ Ok tt → x ≡ values (row_values x)
passed-values (refused n) passed = absurd (not-passed n passed)
passed-values (values rows) passed = refl

pub not-refused : (rows : List ℕ) (n : ℕ) → values rows ≡ refused n → ⊥
not-refused rows n e = not-passed n (sym (ap rows_test e))

split_rows : (zs xs : List ℕ) (rest : Strip) → values zs ≡ prepend xs rest → (zs ≡ xs ++ row_values rest) × (rest ≡ values (row_values rest))
split_rows zs xs (refused n) e = absurd (not-refused zs n e)
split_rows zs xs (values ys) e = (ap row_values e, refl)

-- an operation gives the m rows xs, with i rows of h done, and leads from place at to place next
module _ (s : List ℕ) (h i m at next : ℕ) (rows xs : List ℕ) (owed : rows_of (drop at s) (h - i) (literals 0) ≡ values (drop i rows))
    (gives : rows_of (drop at s) (h - i) (literals 0) ≡ prepend xs (rows_of (drop next s) (h - i - m) (literals 0))) (size : length xs ≡ m) where
  abbrev rest : Strip
  rest = rows_of (drop next s) (h - i - m) (literals 0)

  parts : (drop i rows ≡ xs ++ row_values rest) × (rest ≡ values (row_values rest))
  parts = split_rows (drop i rows) xs rest (sym owed ∙ gives)

  pub still_owed : rows_of (drop next s) (h - (i + m)) (literals 0) ≡ values (drop (i + m) rows)
  still_owed =
      let left : h - (i + m) ≡ h - i - m = omega arith in
      ap (λ (k : ℕ). rows_of (drop next s) k (literals 0)) left
      ∙ parts.1
      ∙ ap values (sym (sym (drop-drop m i rows) ∙ ap (drop m) parts.0 ∙ drop_at xs (row_values rest) m size))

  row_given : (r : ℕ) → r < m → get_or xs r 0 ≡ get_or rows (i + r) 0
  row_given r lt =
      sym (sym (get_or-drop i rows r 0) ∙ ap (λ (l : List ℕ). get_or l r 0) parts.0 ∙ get_or-append xs (row_values rest) 0 r (omega arith))

  -- the column of the first i rows, and theirs below them
  pub joined_on : (w x0 top : ℕ) (g : ℕ → ℕ) (l px qx : List ℕ)
      → ((r : ℕ) → r < m → g r ≡ get_or xs r 0)
      → px ≡ upd (boxed w x0 top 1 i (rows_over rows false)) l
      → qx ≡ upd (boxed w x0 (top + i) 1 m (λ c r o. mask_over false (g r) o)) px
      → qx ≡ upd (boxed w x0 top 1 (i + m) (rows_over rows false)) l
  joined_on w x0 top g l px qx same =
      box_below w x0 top (top + i) 1 i m (rows_over rows false) (λ c r o. mask_over false (g r) o) l px qx refl
      (λ c r o lc lr. ap (bit_or o) (same r lr ∙ row_given r lr))

-- rows of a plane's column are rows of the plane
pub column_part : (len now-len width h planes k s i m : ℕ) → Plane len width h planes k s 0 h → now-len ≡ len → i + m ≤ h
    → Plane now-len width h planes k s i m
column_part len now-len width h planes k s i m p e le =
    record {
      wide = p.wide;
      high = p.high;
      few = p.few;
      room = omega (arith, p.room);
      first = p.first;
      last = p.last;
      right = p.right;
      low = le;
    }

-- bytes joined to a box that is all zero stand there as they are
pub joined_clear : (w x0 y0 bw bh : ℕ) (f : ℕ → ℕ → ℕ) (l px qx : List ℕ)
    → px ≡ upd (boxed w x0 y0 bw bh (λ c r o. 0)) l
    → qx ≡ upd (boxed w x0 y0 bw bh (λ c r o. mask_over false (f c r) o)) px
    → qx ≡ upd (boxed w x0 y0 bw bh (λ c r o. f c r)) l
joined_clear w x0 y0 bw bh f l px qx cleared joined =
    box_same w x0 y0 bw bh (λ c r o. mask_over false (f c r) 0) (λ c r o. f c r) l qx (λ c r o lc lr. or_zero_l (f c r))
    (box_over w x0 y0 bw bh (λ c r o. 0) (λ c r o. mask_over false (f c r) o) l px qx cleared joined)

-- strip k of a ZP block without a body, and with one
module _ (n h : ℕ) (s : List ℕ) (b z k : ℕ) where
  pub no_body : offset_at true s b k ≡ 0 → (y : ℕ) → y < h → mask_at n h s b z k y ≡ 0
  unfolding mask_at rows_at
  no_body none y lt = rw (eq-eqb _ _ none) (get_or-replicate h y 0 0 lt)

  module _ (body : List ℕ) (some : offset_at true s b k ≡ 0 → ⊥) (is_body : body ≡ body_of true n s b z k) where
    body_rows : rows_of body h (literals 0) ≡ rows_at n h s b z k
    unfolding rows_at
    body_rows = rw (ne_eqb _ _ some, is_body) refl

    pub body_passes : strip_test true n h s b z k ≡ Ok tt → rows_test (rows_of body h (literals 0)) ≡ Ok tt
    unfolding strip_test
    body_passes passed = ap rows_test body_rows ∙ passed

    pub body_row : (y : ℕ) → get_or (row_values (rows_of body h (literals 0))) y 0 ≡ mask_at n h s b z k y
    unfolding mask_at
    body_row y = ap (λ (x : Strip). get_or (row_values x) y 0) body_rows
