use Rattle.std.proofs.Common.{◌≡◌, ◌+◌, ◌≤◌, arith, pow_mono, shl_exact}
use Rattle.strip_writer.proofs.BitWriterLaws.{join_low, bits-held, then_flush}
use Rattle.strip_writer.proofs.put_bits.Goals as goal

pub overflow_add-full-2 : goal.overflow_add-full-2
overflow_add-full-2 c =
    let a = c.args in
    let wide : c.from.result ≡ a.value = cc in
    let s = shl_exact a.count a.writer.bits 64 c.requires.2 (omega arith) in
    let l = join_low a.writer.bits a.writer.hold a.count a.value c.requires.0 c.requires.2 in
    let m : a.writer.bits + a.count ≤ 51 = omega arith in
    record { fits = rw wide (omega (arith, s, l, pow_mono m)) }

pub returns-then-bits-count-lt32 : goal.returns-then-bits-count-lt32
returns-then-bits-count-lt32 c =
    let a = c.args in
    let wide : c.from.result ≡ a.value = cc in
    let s = shl_exact a.count a.writer.bits 64 c.requires.2 (omega arith) in
    (rw (wide, s) (bits-held _ a.writer a.count a.value c.requires.0 c.requires.2), omega arith, omega arith)

pub flush-requires : goal.flush-requires
flush-requires c =
    let a = c.args in let pre = c.requires in
    let wide : c.from.result ≡ a.value = cc in
    let s = shl_exact a.count a.writer.bits 64 pre.2 (omega arith) in
    (rw (wide, s) (join_low a.writer.bits a.writer.hold a.count a.value pre.0 pre.2), omega arith)

pub returns : goal.returns
returns c =
    let flush = c.flush in let a = c.args in
    let pre = c.requires in
    let wide : c.from.result ≡ a.value = cc in
    let s = shl_exact a.count a.writer.bits 64 pre.2 (omega arith) in
    let f = flush.ensures in
    (then_flush _ _ _ _ _ _ _ (bits-held _ a.writer a.count a.value pre.0 pre.2) (rw (wide, s) at f.0), omega arith, omega arith)
