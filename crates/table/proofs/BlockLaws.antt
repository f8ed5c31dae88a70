-- What a block that passed its test says of its table and of each of its strips.
use Rattle.std.proofs.Common.{◌≡◌, refl, subst, Bool, true, false, cond, List, ℕ, zero, suc, ◌+◌, ◌≤◌, ◌<◌, arith, Result, Ok, Err}
use mathlib.Core.Logic.{by_cases}
use native.Mathlib.Decide.{ℕ_discrete}
use Rattle.table.specs.Table.{table_right}
use Rattle.table.specs.Test.{and_then, leftmost, strip_test, block_test}

pub not-passed : (n : ℕ) → ◌≡◌ {A = Result (Unit {0}) ℕ} (Err n) (Ok tt) → ⊥
not-passed n h = let z : ◌≡◌ {A = ℕ} 0 1 = cc in omega arith

pub both_pass : (a b : Result (Unit {0}) ℕ) → and_then a b ≡ Ok tt → (a ≡ Ok tt) × (b ≡ Ok tt)
both_pass (Ok tt) b h = (refl, h)
both_pass (Err n) b h = absurd (not-passed n h)

-- where no strip is refused, each passes
pub leftmost-each : (test : ℕ → Result (Unit {0}) ℕ) (m k : ℕ) → leftmost test k m ≡ Ok tt → (t : ℕ) → k ≤ t → t < k + m → test t ≡ Ok tt
unfolding leftmost
leftmost-each test zero k h t le lt = absurd (omega arith)
leftmost-each test (suc m) k h t le lt =
    let two = both_pass (test k) (leftmost test (k + 1) m) h in
    by_cases (ℕ_discrete k t)
    (λ e. subst (λ (i : ℕ). test i ≡ Ok tt) e two.0)
    (λ e. leftmost-each test m (k + 1) two.1 t (omega arith) (omega arith))

table-first : (right : Bool) (strips : Result (Unit {0}) ℕ) (n : ℕ) → cond right strips (Err n) ≡ Ok tt → (right ≡ true) × (strips ≡ Ok tt)
table-first true strips n h = (refl, h)
table-first false strips n h = absurd (not-passed n h)

module _ (mask : Bool) (n h : ℕ) (s : List ℕ) (b z : ℕ) (passed : block_test mask n h s b z ≡ Ok tt) where
  both : (table_right mask n s b z ≡ true) × (leftmost (strip_test mask n h s b z) 0 n ≡ Ok tt)
  unfolding block_test
  both = table-first (table_right mask n s b z) (leftmost (strip_test mask n h s b z) 0 n) 5 passed

  pub block-table : table_right mask n s b z ≡ true
  block-table = both.0

  pub block-strip : (k : ℕ) → k < n → strip_test mask n h s b z k ≡ Ok tt
  block-strip k lt = leftmost-each (strip_test mask n h s b z) n 0 both.1 k (omega arith) (omega arith)
