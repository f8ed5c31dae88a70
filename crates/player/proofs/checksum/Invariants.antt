-- Both sums are those of the bytes so far.
use Rattle.std.proofs.Common.{◌≡◌, ◌<◌}
use Rattle.player.specs.Adler.{sum_of_bytes, sum_of_sums}
use Rattle.player.proofs.checksum.Given as goal

abbrev pub invariant-loop-byte : goal.invariant-loop-byte
invariant-loop-byte l = (l.low ≡ sum_of_bytes l.bytes l.byte-index) × (l.high ≡ sum_of_sums l.bytes l.byte-index) × (l.low < 65521) × (l.high < 65521)
