use Rattle.std.proofs.Common.{ℕ, ◌+◌, ◌/◌, ◌≡◌, refl, ap, ap₂, ◌∙◌, Bool, cond, arith, get_or}
use Rattle.number.proofs.StoreLaws.{table_more, table-behind}
use Rattle.compare.specs.Tables.{found_differ}
use Rattle.compare.proofs.CountLaws.{planes-below}
use Rattle.compare.proofs.TableLaws.{declared_sure, marks-more}
use Rattle.compare.proofs.planes.mark_plane.Goals as goal

-- `compare::planes::mark_plane` meets its contract. Assumes nothing.

pub declared_in-f-requires : goal.declared_in-f-requires
declared_in-f-requires c = (c.args.pair.comparable.first.sound, omega arith)

pub declared_in-g-requires : goal.declared_in-g-requires
declared_in-g-requires c = (c.args.pair.comparable.second.sound, omega arith)

pub loop-k-init : goal.loop-k-init
loop-k-init c = (λ j lt. absurd (omega arith), λ j le. refl)

pub rows_differ-differs-requires : goal.rows_differ-differs-requires
rows_differ-differs-requires c =
    let ok = c.args.pair.comparable in
    let sound = ok.first.sound in
    let f = c.declared_in-f.ensures in
    let g = c.declared_in-g.ensures in (
      rw f (declared_sure _ _ _ _ ok.first refl refl _ (omega arith)),
      rw g (declared_sure _ _ _ _ ok.second (ap (λ (w : ℕ). w / 8) ok.width) ok.height _ (omega arith)),
      c.loop-k-test.true,
      omega (arith, sound.widest),
      sound.highest,
    )

pub bounds-marks-k : goal.bounds-marks-k
bounds-marks-k c =
    omega (arith, c.loop-k.auto.marks, c.requires.in_marks.1, c.args.pair.comparable.first.sound.widest)

pub marked-requires : goal.marked-requires
marked-requires c =
    let loop = c.loop-k in
    let bit = c.plane_bit-bit.ensures in
    let old = loop.invariant.1 loop.k (omega arith) ∙ c.requires.marked_before loop.k c.loop-k-test.true in
    (rw (old, bit.0) (planes-below _ _ _), bit.1)

pub bounds-marks-k-in-loop-k : goal.bounds-marks-k-in-loop-k
bounds-marks-k-in-loop-k c =
    omega (arith, c.loop-k.auto.marks, c.requires.in_marks.1, c.args.pair.comparable.first.sound.widest)

pub loop-k-preserved : goal.loop-k-preserved
loop-k-preserved c =
    let rows-differ = c.rows_differ-differs in let loop = c.loop-k in
    let plane-bit = c.plane_bit-bit in let declared-in2 = c.declared_in-g in
    let declared-in = c.declared_in-f in
    let inv = loop.invariant in
    let args = c.args in
    let bit = plane-bit.result in
    let f = declared-in.result in
    let g = declared-in2.result in
    let value : ℕ → ℕ =
    λ j. get_or args.marks.now j 0 + cond (found_differ (args.pair.ra.width / 8) args.pair.ra.height args.pair.a.now f args.pair.b.now g j) bit 0 in
    let made : c.marked.result ≡ value loop.k =
    c.marked.ensures ∙ ap₂ (λ (x : ℕ) (t : Bool). x + cond t bit 0) (inv.1 loop.k (omega arith)) rows-differ.ensures in (
      table_more value loop.marks loop.k c.marked.result
          (omega (arith, loop.auto.marks, c.requires.in_marks.1, c.args.pair.comparable.first.sound.widest)) inv.0 made,
      table-behind (λ j. get_or args.marks.now j 0) loop.marks loop.k c.marked.result inv.1,
    )

pub returns : goal.returns
returns c =
    let loop = c.loop-k in
    let done : loop.k ≡ c.args.pair.ra.width / 8 = omega arith in
    marks-more _ _ _ _ c.args.pair.comparable _ _ _ _ c.args.marks.now loop.marks c.declared_in-f.ensures
    c.declared_in-g.ensures c.plane_bit-bit.ensures.0 c.requires.marked_before (rw done at loop.invariant.0)
