-- Answers of calls as the rules' numbers: 0 where a call is accepted, which is never a refusal's.
use Rattle.std.specs.Prelude.{ℕ, zero, suc, Result, Ok, Err}

-- the number of an answer
abbrev pub number : {A : Type 0} → Result A ℕ → ℕ
number (Ok value) = 0
number (Err n) = n

-- the answer with no value that has a number
abbrev pub answer_of : ℕ → Result (Unit {0}) ℕ
answer_of zero = Ok tt
answer_of (suc n) = Err (suc n)

-- an answer without its value
abbrev pub done : {A : Type 0} → Result A ℕ → Result (Unit {0}) ℕ
done (Ok value) = Ok tt
done (Err n) = Err n
