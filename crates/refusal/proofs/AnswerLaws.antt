-- What an answer's number says of a test that passed or refused. Assumes nothing.
use Rattle.std.proofs.Common.{◌≡◌, refl, ℕ, zero, suc, Ok, Err}
use Rattle.refusal.specs.Answer.{answer_of}

-- a test that passed refuses nothing
pub accepted : (n : ℕ) → Ok tt ≡ answer_of n → n ≡ 0
accepted zero e = refl
accepted (suc n) e = cc

-- a test that refused has that number, which is not 0
pub refused : (k n : ℕ) → Err k ≡ answer_of n → (n ≡ k) × (n ≡ 0 → ⊥)
refused k zero e = cc
refused k (suc n) e = (cc, λ z. cc)
