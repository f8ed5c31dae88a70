-- When a strip table is wrong (refusal 5): it doesn't fit its block, or an offset is too low, too high or not above one before it.
use Rattle.std.proofs.Common.{◌≡◌, refl, sym, ap, ◌∙◌, subst, Bool, true, false, ◌&&◌, cond, true≢false, List, ◌⊎◌, inl, inr, ◌↔◌, ℕ, zero, suc, ◌+◌, ◌-◌, ◌≤◌, ◌<◌, arith, leb, ltb}
use mathlib.Core.Logic.{by_cases}
use native.Mathlib.Decide.{ℕ_discrete}
use Rattle.number.proofs.BoolLaws.{both}
use Rattle.table.specs.Table.{table_end, offset_at, offset_right, bodiless, offsets_right, table_right}
use Rattle.table.proofs.TableLaws.{right_offset, offsets_at}
use Rattle.demands.specs.RoomRefusals.{OffsetWrong, TableBad}
use Rattle.demands.proofs.RefusalTests.{◌then◌, or_fails, one_fails, flat_sum, not-up_to, not-below}

module _ (mask : Bool) (s : List ℕ) (b low size : ℕ) where
  abbrev at : ℕ → ℕ
  at k = offset_at mask s b k

  abbrev Has : ℕ → Type 0
  Has k = bodiless mask (at k) ≡ false

  -- what is wrong with the offset of strip t, among those from strip k on and behind the offset `before`
  abbrev WrongFrom : (k before t : ℕ) → Type 0
  WrongFrom k before t =
      (at t < low) ⊎ (size ≤ at t) ⊎ (at t ≤ before) ⊎ ((j : ℕ) × (k ≤ j) × (j < t) × Has j × (at t ≤ at j))

  abbrev SomeWrong : (k m before : ℕ) → Type 0
  SomeWrong k m before = (t : ℕ) × (k ≤ t) × (t < k + m) × Has t × WrongFrom k before t

  -- one strip earlier, which has no body, or has one
  wrong_before : (k before t : ℕ) → WrongFrom (k + 1) before t → WrongFrom k before t
  wrong_before k before t (inl w) = inl w
  wrong_before k before t (inr (inl w)) = inr (inl w)
  wrong_before k before t (inr (inr (inl w))) = inr (inr (inl w))
  wrong_before k before t (inr (inr (inr (j, le, lt, has, w)))) = inr (inr (inr (j, omega arith, lt, has, w)))

  wrong_behind : (k before t : ℕ) → Has k → k < t → WrongFrom (k + 1) (at k) t → WrongFrom k before t
  wrong_behind k before t has lt (inl w) = inl w
  wrong_behind k before t has lt (inr (inl w)) = inr (inl w)
  wrong_behind k before t has lt (inr (inr (inl w))) = inr (inr (inr (k, omega arith, lt, has, w)))
  wrong_behind k before t has lt (inr (inr (inr (j, le, near, body, w)))) = inr (inr (inr (j, omega arith, near, body, w)))

  offset_wrong : (before offset : ℕ) → (offset_right low size before offset ≡ false) ↔ ((offset < low) ⊎ (size ≤ offset) ⊎ (offset ≤ before))
  unfolding offset_right
  offset_wrong before offset =
      or_fails (leb low offset && ltb offset size) (ltb before offset)
      (or_fails (leb low offset) (ltb offset size) (not-up_to low offset) (not-below offset size))
      (not-below before offset)
      then flat_sum

  wrong_here : (k before : ℕ) → (at k < low) ⊎ (size ≤ at k) ⊎ (at k ≤ before) → WrongFrom k before k
  wrong_here k before (inl w) = inl w
  wrong_here k before (inr (inl w)) = inr (inl w)
  wrong_here k before (inr (inr w)) = inr (inr (inl w))

  offsets_wrong : (m k before : ℕ) → offsets_right mask s b low size k m before ≡ false → SomeWrong k m before
  unfolding offsets_right
  offsets_wrong zero k before e = absurd (true≢false e)
  offsets_wrong (suc m) k before e =
      go (bodiless mask (at k)) refl (offsets_wrong m (k + 1) before) (offsets_wrong m (k + 1) (at k)) e
    where
      behind : Has k → (offset_right low size before (at k) ≡ false) ⊎ (offsets_right mask s b low size (k + 1) m (at k) ≡ false)
          → (offsets_right mask s b low size (k + 1) m (at k) ≡ false → SomeWrong (k + 1) m (at k)) → SomeWrong k (suc m) before
      behind has (inl w) later = (k, omega arith, omega arith, has, wrong_here k before ((offset_wrong before (at k)).0 w))
      behind has (inr w) later =
          let (t, le, lt, body, wrong) = later w in
          (t, omega arith, omega arith, body, wrong_behind k before t has (omega arith) wrong)

      go : (q : Bool) → bodiless mask (at k) ≡ q → (offsets_right mask s b low size (k + 1) m before ≡ false → SomeWrong (k + 1) m before)
          → (offsets_right mask s b low size (k + 1) m (at k) ≡ false → SomeWrong (k + 1) m (at k))
          → cond q (offsets_right mask s b low size (k + 1) m before)
          (offset_right low size before (at k) && offsets_right mask s b low size (k + 1) m (at k)) ≡
          false
          → SomeWrong k (suc m) before
      go true none passed next w =
          let (t, le, lt, body, wrong) = passed w in
          (t, omega arith, omega arith, body, wrong_before k before t wrong)
      go false has passed next w =
          behind has ((one_fails (offset_right low size before (at k)) (offsets_right mask s b low size (k + 1) m (at k))).0 w) next

  -- where they are right, each is
  offsets_hold : (m k before : ℕ) → offsets_right mask s b low size k m before ≡ true → (t : ℕ) → k ≤ t → t < k + m → Has t
      → (low ≤ at t) × (at t < size) × (before < at t)
  unfolding offsets_right
  offsets_hold zero k before e t le lt has = absurd (omega arith)
  offsets_hold (suc m) k before e t le lt has =
      go (bodiless mask (at k)) refl (offsets_hold m (k + 1)) e
    where
      go : (q : Bool) → bodiless mask (at k) ≡ q
          → ((from : ℕ) → offsets_right mask s b low size (k + 1) m from ≡ true → (u : ℕ) → k + 1 ≤ u → u < k + 1 + m → Has u
          → (low ≤ at u) × (at u < size) × (from < at u))
          → cond q (offsets_right mask s b low size (k + 1) m before)
          (offset_right low size before (at k) && offsets_right mask s b low size (k + 1) m (at k)) ≡
          true
          → (low ≤ at t) × (at t < size) × (before < at t)
      go true none later w =
          by_cases (ℕ_discrete k t)
          (λ same. absurd (true≢false (sym none ∙ ap (λ (i : ℕ). bodiless mask (at i)) same ∙ has)))
          (λ other. later before w t (omega (arith, other)) (omega arith) has)
      go false body later w =
          let two = both (offset_right low size before (at k)) (offsets_right mask s b low size (k + 1) m (at k)) w in
          let here = right_offset low size before (at k) two.0 in
          by_cases (ℕ_discrete k t)
          (λ same. subst (λ (i : ℕ). (low ≤ at i) × (at i < size) × (before < at i)) same here)
          (λ other.
          let there = later (at k) two.1 t (omega (arith, other)) (omega arith) has in
          (there.0, there.1, omega (arith, here.2, there.2)))

module _ (mask : Bool) (n : ℕ) (s : List ℕ) (b z : ℕ) where
  abbrev low : ℕ
  low = table_end mask n

  abbrev offsets : Bool
  offsets = offsets_right mask s b low (z - b) 0 n 0

  abbrev OffsetBad : Type 0
  OffsetBad = (k : ℕ) × (k < n) × (bodiless mask (offset_at mask s b k) ≡ false) × OffsetWrong mask n s b z k

  some_wrong : offsets ≡ false → OffsetBad
  some_wrong e = let (t, le, lt, has, wrong) = offsets_wrong mask s b low (z - b) n 0 0 e in (t, omega arith, has, go t wrong)
    where
      go : (t : ℕ) → WrongFrom mask s b low (z - b) 0 0 t → OffsetWrong mask n s b z t
      go t (inl w) = inl w
      go t (inr (inl w)) = inr (inl w)
      go t (inr (inr (inl w))) = inl (omega arith)
      go t (inr (inr (inr (j, le, lt, has, w)))) = inr (inr (j, lt, has, w))

  wrong_some : OffsetBad → (q : Bool) → offsets ≡ q → q ≡ false
  wrong_some bad false e = refl
  wrong_some (k, lt, has, wrong) true e = absurd (go wrong)
    where
      holds : (low ≤ offset_at mask s b k) × (offset_at mask s b k < z - b) × (0 < offset_at mask s b k)
      holds = offsets_hold mask s b low (z - b) n 0 0 e k (omega arith) (omega arith) has

      go : OffsetWrong mask n s b z k → ⊥
      go (inl w) = omega (arith, holds.0)
      go (inr (inl w)) = omega (arith, holds.1)
      go (inr (inr (j, before, body, w))) =
          let after = offsets_at mask s b low (z - b) j body n 0 0 e (omega arith) (omega arith) in
          let rising = offsets_hold mask s b low (z - b) (0 + n - (j + 1)) (j + 1) (offset_at mask s b j) after.1 k (omega arith) (omega arith) has in
          omega (arith, rising.2)

  pub table_bad : (table_right mask n s b z ≡ false) ↔ TableBad mask n s b z
  unfolding table_right
  table_bad = or_fails (leb low (z - b)) offsets (not-up_to low (z - b)) (some_wrong, λ bad. wrong_some bad offsets refl)
