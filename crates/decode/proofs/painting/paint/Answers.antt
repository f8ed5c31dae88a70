use Rattle.std.proofs.Common.{not, eqb, get_or, drop, set, take, ◌-◌, le_antisymm, arith, List, Bool, refl, sym, ap, ◌∙◌}
use Rattle.decode.proofs.PaintLaws.{paint_start, paint_end}
use Rattle.strip.specs.Strip.{decode, prepend}
use Rattle.bits.specs.Bits.{bits_of}
use Rattle.decode.proofs.painting.paint.Goals as goal

pub loop-st-init : goal.loop-st-init
loop-st-init g c =
    let a = c.args in let pre = c.requires in
    let s = a.body.now in
    let e = c.new.ensures in
    let first = get_or s 1 0 in (
      pre.1,
      refl,
      e.held s pre.3,
      paint_start (not (eqb g.row.SECOND 0)) a.w a.total first (bits_of (drop 2 s)) a.out.now pre.1 (omega (arith, pre.1, pre.4))
          ∙ ap (λ (l : List Bool). prepend (take 1 (set a.out.now 0 first)) (decode (not (eqb g.row.SECOND 0)) a.w (a.total - 1) 0 first 1 l)) (sym (e.all s)),
    )

pub returns : goal.returns
returns g c =
    let loop = c.loop-st in let a = c.args in
    paint_end (not (eqb g.row.SECOND 0)) a.w a.total a.body.now _ loop.out loop.st loop.invariant.3 (le_antisymm loop.invariant.0 c.loop-st-test.false)
