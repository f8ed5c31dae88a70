-- Laws of bodies: where a body ends, and that it lies in its block where the table is right.
use Rattle.std.proofs.Common.{◌≡◌, refl, Bool, true, false, ◌&&◌, cond, List, ℕ, zero, suc, ◌+◌, ◌-◌, ◌*◌, ◌≤◌, ◌<◌, arith, eq-eqb, ne_eqb, mul-le-mul_left, eqb, length, take, drop, replicate, Ok}
use Rattle.number.proofs.BoolLaws.{and_left, and_right}
use Rattle.table.specs.Table.{offset_size, table_end, offset_at, offset_right, bodiless, offsets_right, table_right}
use Rattle.table.specs.Body.{body_end, rows_at}
use Rattle.strip.specs.Strip.{Filled}
use Rattle.table.proofs.TableLaws.{right_offset, table_at, table-room}

module _ (mask : Bool) (s : List ℕ) (b z : ℕ) where
  pub end_none : (k m : ℕ) → m ≡ 0 → body_end mask s b z k m ≡ z
  unfolding body_end
  end_none k zero e = refl
  end_none k (suc m) e = absurd (omega arith)

  module _ (k m rest offset : ℕ) (more : m ≡ suc rest) (read : offset ≡ offset_at mask s b k) where
    pub end_here : (offset ≡ 0 → ⊥) → body_end mask s b z k m ≡ b + offset
    unfolding body_end
    end_here some = rw (more, ← read, ne_eqb offset 0 some)

    pub end_on : offset ≡ 0 → body_end mask s b z k m ≡ body_end mask s b z (k + 1) rest
    unfolding body_end
    end_on none = rw (more, ← read, eq-eqb offset 0 none)

  -- a body that starts before the offsets that are right ends after its start, and in its block
  module _ (low size : ℕ) (whole : z ≡ b + size) where
    abbrev Between : ℕ → ℕ → Type 0
    Between before end = (b + before ≤ end) × (end ≤ z)

    pub ends_between : (m k before : ℕ) → before < size → offsets_right mask s b low size k m before ≡ true → Between before (body_end mask s b z k m)
    unfolding offsets_right body_end
    ends_between zero k before lt h = omega arith
    ends_between (suc m) k before lt h =
        go (bodiless mask (offset_at mask s b k)) refl h (λ g. ends_between m (k + 1) before lt g)
      where
        go : (q : Bool) → bodiless mask (offset_at mask s b k) ≡ q
            → cond q (offsets_right mask s b low size (k + 1) m before) (offset_right low size before (offset_at mask s b k) && offsets_right mask s b low size
            (k + 1) m (offset_at mask s b k)) ≡ true
            → (offsets_right mask s b low size (k + 1) m before ≡ true → Between before (body_end mask s b z (k + 1) m))
            → Between before (cond (eqb (offset_at mask s b k) 0) (body_end mask s b z (k + 1) m) (b + offset_at mask s b k))
        go true eq h ih = rw (and_right mask (eqb (offset_at mask s b k) 0) eq) (ih h)
        go false eq h ih =
            let right = right_offset low size before (offset_at mask s b k) (and_left _ (offsets_right mask s b low size (k + 1) m (offset_at mask s b k)) h) in
            rw (ne_eqb (offset_at mask s b k) 0 (λ e. omega arith)) (omega arith)

-- the body of a strip that has one lies in its block
module _ (mask : Bool) (n : ℕ) (s : List ℕ) (b z k : ℕ) (right : table_right mask n s b z ≡ true) (in_table : k < n)
    (some : bodiless mask (offset_at mask s b k) ≡ false) where
  pub body-in : (b + offset_at mask s b k ≤ body_end mask s b z (k + 1) (n - (k + 1))) × (body_end mask s b z (k + 1) (n - (k + 1)) ≤ z)
  body-in =
      let at = table_at mask n s b z right k in_table some in
      ends_between mask s b z (table_end mask n) (z - b) (omega arith) (n - (k + 1)) (k + 1) (offset_at mask s b k) at.0 at.1

-- the table's cells lie in the room
pub cell_room : (mask : Bool) (n : ℕ) (s : List ℕ) (b z k : ℕ) → table_right mask n s b z ≡ true → k < n → b ≤ z → z ≤ length s → b + 8 + offset_size mask *
    (k + 1) ≤ length s
cell_room mask n s b z k right lt le end =
    let next : k + 1 ≤ n = omega arith in
    omega (arith, table-room mask n s b z right, mul-le-mul_left (offset_size mask) next)

-- rows that are all zero, filled in
pub zero_rows : (n h : ℕ) (s : List ℕ) (b z k : ℕ) (d e : List ℕ) → offset_at true s b k ≡ 0
    → take h e ≡ replicate h 0 → drop h e ≡ drop h d → Filled h (rows_at n h s b z k) d e (Ok tt)
unfolding rows_at
zero_rows n h s b z k d e none front back = (rw (eq-eqb _ _ none, ← front), back)
