-- One byte more in both sums, as the definitions have it.
use Rattle.std.proofs.Common.{◌≡◌, ◌+◌, ◌%◌, refl, ap₂, rules, arith, slice_index_or}
use native.Mathlib.Numerals.{add-one}
use Rattle.player.specs.Adler.{sum_of_bytes, sum_of_sums}
use Rattle.player.proofs.checksum.Goals as goal

pub loop-byte-init : goal.loop-byte-init
unfolding sum_of_bytes sum_of_sums
loop-byte-init c = (refl, refl, omega arith, omega arith)

pub loop-byte-preserved : goal.loop-byte-preserved
unfolding sum_of_bytes sum_of_sums
loop-byte-preserved c =
    let i = c.loop-byte.byte-index in
    let byte : c.from.result ≡ slice_index_or c.args.bytes.now i 0 = search rules in
    let low = ap₂ (λ x y. (x + y) % 65521) c.loop-byte.invariant.0 byte in
    (rw (add-one i) low, rw (add-one i) (λ j. (c.loop-byte.invariant.1 j + low j) % 65521), omega arith, omega arith)
