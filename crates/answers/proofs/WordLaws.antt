-- Laws of an answer of two parts: a refused call has its number alone, an accepted one its value alone, and each part can be taken out again.
use Rattle.std.proofs.Common.{ℕ, ◌*◌, ◌/◌, ◌%◌, ◌<◌, ◌≡◌, sym, add-zero, zero-add, arith}
use Rattle.answers.specs.Word.{word}

pub refused-word : (n : ℕ) → n ≡ word n 0
refused-word n = sym (add-zero n)

pub accepted-word : (v : ℕ) → v * 4294967296 ≡ word 0 v
accepted-word v = sym (zero-add (v * 4294967296))

pub number_back : (n v : ℕ) → n < 4294967296 → word n v % 4294967296 ≡ n
number_back n v h = omega arith

pub value_back : (n v : ℕ) → n < 4294967296 → word n v / 4294967296 ≡ v
value_back n v h = omega arith
