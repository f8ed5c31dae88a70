-- An answer of two parts as one u64 for a C host: document 01's number in the low 32 bits, the value in the high 32. The crate that answers says which
-- number and which value each case has.
use Rattle.std.specs.Prelude.{ℕ, ◌+◌, ◌*◌, Option, Result, Ok, Err, Bool}
use Rattle.actor.specs.Hidden as hidden
use Rattle.costume.specs.Start as start
use Rattle.costume.specs.declared.Started.{Started}
use Rattle.limbs.specs.Limb as limb
use Rattle.block_writer.specs.Call as write
use Rattle.compare.specs.Compare as compare
use Rattle.point.specs.Call as point

abbrev pub word : (number value : ℕ) → ℕ
word number value = number + value * 4294967296

-- the word of an answer whose value is a number
abbrev pub answer_word : Result ℕ ℕ → ℕ
answer_word (Ok value) = word 0 value
answer_word (Err n) = word n 0

-- kg_hidden: value 1 where the pixel is hidden, else 0
abbrev pub hidden_word : Result Bool ℕ → ℕ
hidden_word a = word (hidden.number a) (hidden.value a)

-- kg_start: value 1 where the animation is defined, else 0
abbrev pub started_word : Result Started ℕ → ℕ
started_word a = word (start.number a) (start.value a)

-- kg_limb_draws: value 0 where the limb draws nothing, else 256 and the picture
abbrev pub drawn_word : Result (Option ℕ) ℕ → ℕ
drawn_word a = word (limb.number a) (limb.value a)

-- kg_write_smap, kg_write_plane: the value is the block's length
abbrev pub wrote_word : Result ℕ ℕ → ℕ
wrote_word a = word (write.number a) (write.value a)

-- kg_object_at: the value is the object's number, 0 for no object
abbrev pub pointed_word : Result (Option ℕ) ℕ → ℕ
pointed_word a = word (point.number a) (point.value a)

-- kg_compare: the value is how many places of the list were filled
abbrev pub compared_word : Result ℕ ℕ → ℕ
compared_word a = word (compare.number a) (compare.value a)
