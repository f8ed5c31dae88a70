use Rattle.std.proofs.Common.{arith, ◌≡◌, ap, sym, ◌∙◌, one-mul, get_or}
use Rattle.strip.specs.Picture.{up_to}
use Rattle.block_writer.specs.Block.{place_of, strip_bytes}
use Rattle.block_writer.proofs.StripBytesLaws.{rows_more}
use Rattle.block_writer.proofs.gather_rows.Goals as goal

pub loop-y-preserved : goal.loop-y-preserved
loop-y-preserved c =
    let a = c.args in let l = c.loop-y in
    rows_more a.n a.k a.src.now l.out l.y (omega (arith, l.auto.out)) l.invariant

pub returns : goal.returns
unfolding strip_bytes
returns c =
    let a = c.args in
    let done : c.loop-y.y ≡ a.h = omega arith in
    rw done at c.loop-y.invariant ∙ ap (up_to (λ j. get_or a.src.now (place_of 1 a.n a.k j) 0)) (sym (one-mul a.h))
