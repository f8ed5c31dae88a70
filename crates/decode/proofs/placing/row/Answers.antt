use Rattle.std.proofs.Common.{◌≡◌, ap, true, ℕ, ◌+◌, ◌*◌, ◌<◌, arith, length, get_or}
use Rattle.strip.proofs.PictureLaws.{source_column, pixel_at, up_to_store}
use Rattle.number.proofs.BufferLaws.{drop_store}
use Rattle.decode.proofs.placing.row.Goals as goal

pub loop-c-preserved : goal.loop-c-preserved
loop-c-preserved c =
    let a = c.args in
    let l = c.loop-c in
    let j = 8 * a.y + l.c in
    let room : j < length l.out = omega (arith, l.auto.out, c.requires.row_fits) in
    let next : 8 * a.y + (l.c + 1) ≡ j + 1 = omega arith in
    let source = source_column a.h a.y l.c c.loop-c-test.true in (
      rw next (drop_store l.out _ j _ l.invariant.0),
      rw next (up_to_store (pixel_at true a.h a.src.now) l.out j _ room l.invariant.1 (ap (λ (k : ℕ). get_or a.src.now k 0) source)),
    )
