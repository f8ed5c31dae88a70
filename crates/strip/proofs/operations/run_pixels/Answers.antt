use Rattle.std.proofs.Common.{◌≡◌, ℕ, zero, suc, refl, arith}
use Rattle.strip.specs.Strip.{run_pixels}
use Rattle.strip.proofs.operations.run_pixels.Goals as goal

pixels-none : (n : ℕ) → n ≡ 0 → 256 ≡ run_pixels n
pixels-none zero none = refl
pixels-none (suc n) none = absurd (omega arith)

pixels-some : (n : ℕ) → (n ≡ 0 → ⊥) → n ≡ run_pixels n
pixels-some zero some = absurd (some refl)
pixels-some (suc n) some = refl

pub returns-then-n-eq0 : goal.returns-then-n-eq0
returns-then-n-eq0 c = (pixels-none _ c.if-n-eq0.true, omega arith, omega arith)

pub returns-else-n-eq0 : goal.returns-else-n-eq0
returns-else-n-eq0 c = (pixels-some _ c.if-n-eq0.false, omega arith, omega arith)
