use Rattle.std.proofs.Common.{refl, arith}
use Rattle.bits.specs.Bits.{rest, low_bits}
use Rattle.bits.proofs.Cursor.new.Goals as goal

pub returns : goal.returns
unfolding rest low_bits
returns c = record { place = refl; none = refl; all = λ s. refl; held = λ s le. record { few = omega arith; low = omega arith; inside = le } }
