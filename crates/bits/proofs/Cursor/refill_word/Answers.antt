use Rattle.std.proofs.Common.{◌<◌, ◌≤◌, ◌+◌, ◌*◌, ◌/◌, ◌-◌, ◌%◌, ◌^◌, pow_pos, length, mod-lt, arith}
use Rattle.bits.specs.Bits.{word_at}
use Rattle.bits.proofs.CursorLaws.{size_of, eight-front, shift_exact, sum_fits, more_fetched}
use Rattle.bits.proofs.Cursor.refill_word.Goals as goal

pub overflow_add-result-3 : goal.overflow_add-result-3
overflow_add-result-3 c =
    let args = c.args in let pre = c.requires in
    let self = args.self in
    let s = args.body.now in
    let n = (63 - self.bits) / 8 in
    let v = (word_at s self.at + word_at s (self.at + 4) * 4294967296) % 2 ^ (8 * n) in
    let low : v < 2 ^ (8 * n) = mod-lt _ (pow_pos (8 * n)) in
    rw (
      c.eight.ensures,
      size_of (8 * n) (omega arith),
      shift_exact s self pre.0 (self.at + n) (8 * n) v (omega (arith, pre.0.few)) low
          (omega (arith, pre.1)),
    )
    (record { fits = sum_fits s self pre.0 (self.at + n) (8 * n) v (omega (arith, pre.0.few)) low (omega (arith, pre.1)) })

pub returns : goal.returns
returns c =
    let self = c.args.self in
    let s = c.args.body.now in
    let n = (63 - self.bits) / 8 in
    let v = (word_at s self.at + word_at s (self.at + 4) * 4294967296) % 2 ^ (8 * n) in
    let low : v < 2 ^ (8 * n) = mod-lt _ (pow_pos (8 * n)) in
    let held = c.requires.0 in
    let room : self.bits + 8 * n ≤ 63 = omega (arith, held.few) in
    let inside : self.at + n ≤ length s = omega (arith, c.requires.1) in
    rw (c.eight.ensures, size_of (8 * n) (omega arith), shift_exact s self held (self.at + n) (8 * n) v room low inside) (
      more_fetched s self held (self.at + n) (8 * n) v room low inside (omega arith) (omega arith)
          (eight-front s self.at n c.requires.1 (omega arith) c.shared_slice_known-1.given),
      omega (arith, held.few),
    )
