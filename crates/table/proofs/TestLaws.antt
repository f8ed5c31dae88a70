-- Laws of the test of a whole block: one strip more.
use Rattle.std.proofs.Common.{◌≡◌, refl, sym, ap, ◌∙◌, ℕ, zero, suc, ◌+◌, arith, eq-eqb, ne_eqb, true, List, Result, Ok, Err}
use Rattle.std.specs.Result.{result_and}
use Rattle.strip.specs.Strip.{Strip, refused, values, made_of}
use Rattle.strip_test.specs.Outcome.{test_of}
use Rattle.strip.specs.Picture.{Picture, refusal, picture, answer_of}
use Rattle.plane.specs.Mask.{rows_of, literals}
use Rattle.table.specs.Table.{offset_at}
use Rattle.table.specs.Body.{body_of, rows_at}
use Rattle.table.specs.Test.{and_then, leftmost, picture_test, rows_test, strip_test}

then_then : (a b c : Result (Unit {0}) ℕ) → and_then (and_then a b) c ≡ and_then a (and_then b c)
then_then (Ok tt) b c = refl
then_then (Err n) b c = refl

then_passed : (a : Result (Unit {0}) ℕ) → and_then a (Ok tt) ≡ a
then_passed (Ok tt) = refl
then_passed (Err n) = refl

-- what the code's `and` gives
pub and-then : (a b : Result (Unit {0}) ℕ) → result_and a b ≡ and_then a b
and-then (Ok tt) b = refl
and-then (Err n) b = refl

module _ (test : ℕ → Result (Unit {0}) ℕ) where
  pub leftmost-none : (k m : ℕ) → m ≡ 0 → leftmost test k m ≡ Ok tt
  unfolding leftmost
  leftmost-none k zero e = refl
  leftmost-none k (suc m) e = absurd (omega arith)

  module _ (k m rest : ℕ) (more : m ≡ suc rest) where
    pub leftmost_pass : test k ≡ Ok tt → leftmost test k m ≡ leftmost test (k + 1) rest
    unfolding leftmost
    leftmost_pass h = rw (more, h)

    pub leftmost_stop : (n : ℕ) → test k ≡ Err n → leftmost test k m ≡ Err n
    unfolding leftmost
    leftmost_stop n h = rw (more, h)

  leftmost-two : (k m rest : ℕ) → m ≡ suc (suc rest) → leftmost test k m ≡ and_then (and_then (test k) (test (k + 1))) (leftmost test (k + 2) rest)
  unfolding leftmost
  leftmost-two k m rest more =
      let on : k + 1 + 1 ≡ k + 2 = omega arith in
      ap (leftmost test k) more
      ∙ ap (λ (j : ℕ). and_then (test k) (and_then (test (k + 1)) (leftmost test j rest))) on
      ∙ sym (then_then (test k) (test (k + 1)) (leftmost test (k + 2) rest))

  pub two_pass : (k m rest : ℕ) → m ≡ suc (suc rest) → and_then (test k) (test (k + 1)) ≡ Ok tt → leftmost test k m ≡ leftmost test (k + 2) rest
  two_pass k m rest more h = leftmost-two k m rest more ∙ ap (λ (t : Result (Unit {0}) ℕ). and_then t (leftmost test (k + 2) rest)) h

  pub two_stop : (k m rest : ℕ) → m ≡ suc (suc rest) → (n : ℕ) → and_then (test k) (test (k + 1)) ≡ Err n → leftmost test k m ≡ Err n
  two_stop k m rest more n h = leftmost-two k m rest more ∙ ap (λ (t : Result (Unit {0}) ℕ). and_then t (leftmost test (k + 2) rest)) h

  pub leftmost-last : (k m : ℕ) → m ≡ 1 → leftmost test k m ≡ test k
  unfolding leftmost
  leftmost-last k m e = ap (leftmost test k) e ∙ then_passed (test k)

-- the test of a strip, from the answer of reading it
pub picture-tested : (p : Picture) → test_of p ≡ picture_test p
picture-tested (refusal n) = refl
picture-tested (picture t pixels) = refl

pub rows-tested : (x : Strip) → made_of x ≡ rows_test x
rows-tested (refused n) = refl
rows-tested (values rows) = refl

pub refused_stops : (p : Picture) (n : ℕ) → answer_of p ≡ Err n → Err n ≡ picture_test p
refused_stops (refusal m) n h = ap Err (let z : n ≡ m = cc in z)
refused_stops (picture t pixels) n h = absurd (let z : ◌≡◌ {A = ℕ} 0 1 = cc in omega arith)

-- a strip of a plane, with no body and with one
module _ (n h : ℕ) (s : List ℕ) (b z k : ℕ) where
  pub bodiless-passes : offset_at true s b k ≡ 0 → Ok tt ≡ strip_test true n h s b z k
  unfolding strip_test rows_at
  bodiless-passes none = rw (eq-eqb _ _ none)

  pub body_tested : (offset_at true s b k ≡ 0 → ⊥) → strip_test true n h s b z k ≡ rows_test (rows_of (body_of true n s b z k) h (literals 0))
  unfolding strip_test rows_at
  body_tested some = rw (ne_eqb _ _ some)
