use Rattle.std.proofs.Common.{◌+◌, ◌≤◌, length, get_or, refl, arith}
use Rattle.bits.proofs.CursorLaws.{bits_byte, shift_exact, sum_fits, more_fetched}
use Rattle.bits.proofs.Cursor.refill_byte.Goals as goal

pub overflow_add-result-3 : goal.overflow_add-result-3
overflow_add-result-3 c =
    let shared-slice-known = c.shared_slice_known-1 in let args = c.args in let pre = c.requires in
    let s = args.body.now in
    let b = get_or s args.self.at 0 in
    let held = pre.0 in
    let byte = (shared-slice-known.given args.self.at).fits in
    rw (c.from.ensures, shift_exact s args.self held (args.self.at + 1) 8 b (omega (arith, pre.1)) byte (omega (arith, pre.2)))
    (record { fits = sum_fits s args.self held (args.self.at + 1) 8 b (omega (arith, pre.1)) byte (omega (arith, pre.2)) })

pub returns : goal.returns
returns c =
    let self = c.args.self in
    let s = c.args.body.now in
    let b = get_or s self.at 0 in
    let held = c.requires.0 in
    let byte = (c.shared_slice_known-1.given self.at).fits in
    let room : self.bits + 8 ≤ 63 = omega (arith, c.requires.1) in
    let inside : self.at + 1 ≤ length s = omega (arith, c.requires.2) in
    rw (c.from.ensures, shift_exact s self held (self.at + 1) 8 b room byte inside) (
      more_fetched s self held (self.at + 1) 8 b room byte inside (omega arith) (omega arith) (bits_byte s self.at c.requires.2),
      refl,
    )
