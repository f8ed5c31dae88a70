use Rattle.std.proofs.Common.{not, eqb, arith, ◌≡◌, sym, ap, subst, ◌∙◌, false, List, ℕ, ◌≤◌}
use Rattle.decode.proofs.PaintLaws.{advances_kept, advances_op, advances_on, whole_in_ten, kept-some}
use Rattle.decode.specs.Paint.{Advances}
use Rattle.number.proofs.BufferLaws.{fill_part}
use Rattle.strip.specs.Place.{run_ahead}
use Rattle.strip.specs.declared.State.{State}
use Rattle.bits.specs.Reader.{One}
use Rattle.bits.specs.Bits.{rest}
use Rattle.decode.proofs.groups.group.Goals as goal

pub returns-then-zeros-eq8 : goal.returns-then-zeros-eq8
returns-then-zeros-eq8 g c =
    let kept = c.kept-a in let painted = c.fill in
    let zeros = c.zeros-zeros in let a = c.args in let pre = c.requires in
    let st = a.st in
    let k = zeros.result.count in
    let few = zeros.ensures.0 in
    rw kept.ensures (
      omega (arith, few, zeros.ensures.1.fewer),
      omega (arith, zeros.ensures.1.fewer, pre.2),
      (λ s no_run. omega arith),
      advances_kept (not (eqb g.row.SECOND 0)) a.w 9 k st zeros.result.next a.out.now painted.new.out zeros.ensures.1 (omega (arith, few))
          (fill_part a.out.now painted.new.out st.i 8 k st.colour (omega (arith, pre.4)) few painted.ensures.filled),
    )

pub returns-then-run_at : goal.returns-then-run_at
returns-then-run_at g c =
    let kept = c.kept-a in let painted = c.fill in
    let zeros = c.zeros-zeros in
    let a = c.args in let pre = c.requires in
    let st = a.st in
    let k = zeros.result.count in
    let few = zeros.ensures.0 in
    rw kept.ensures (
      omega (arith, few, zeros.ensures.1.fewer),
      omega (arith, zeros.ensures.1.fewer, pre.2),
      (λ s no_run. omega
          (arith, kept-some (not (eqb g.row.SECOND 0)) s st.cur zeros.result.next k zeros.ensures.1 no_run (sym (c.run_at.ensures s) ∙ c.if-run_at.true))),
      advances_kept (not (eqb g.row.SECOND 0)) a.w 9 k st zeros.result.next a.out.now painted.new.out zeros.ensures.1 (omega (arith, few))
          (fill_part a.out.now painted.new.out st.i 8 k st.colour (omega (arith, pre.4)) few painted.ensures.filled),
    )

pub op-b-requires : goal.op-b-requires
op-b-requires g c =
    let kept = c.kept-a in
    let zeros = c.zeros-zeros in
    let pre = c.requires in let args = c.args in
    let few = zeros.ensures.0 in
    let fewer = zeros.ensures.1.fewer in
    rw kept.ensures (
      pre.0,
      whole_in_ten (not (eqb g.row.SECOND 0)) args.w zeros.result.next pre.0 (omega (arith, few, fewer, pre.1)),
      omega (arith, fewer, pre.2),
      omega (arith, few, pre.3),
    )

pub bounds-out-a : goal.bounds-out-a
bounds-out-a g c =
    let kept = c.kept-a in
    let fill = c.fill in let zeros = c.zeros-zeros in let pre = c.requires in
    omega (arith, ap (λ (q : State). q.i) kept.ensures, zeros.ensures.0, pre.4, fill.auto.out)

pub returns : goal.returns
returns g c =
    let run_at = c.run_at in let if1 = c.if-zeros-eq8 in
    let kept = c.kept-a in
    let painted = c.fill in let zeros = c.zeros-zeros in let a = c.args in let pre = c.requires in
    let st = a.st in
    let k = zeros.result.count in
    let few : k ≤ 7 = omega (arith, zeros.ensures.0, if1.false) in
    let mid = kept.result in
    let same = kept.ensures in
    let at = ap (λ (q : State). q.i) same in
    let bits = ap (λ (q : State). q.cur.bits) same in
    let left : (s : List ℕ) → rest s mid.cur ≡ rest s zeros.result.next = λ s. ap (λ (q : State). rest s q.cur) same in
    let one : (s : List ℕ) → One (rest s mid.cur) = λ s. subst One (sym (left s)) (zeros.ensures.2 (omega (arith, few)) s) in
    let no_run : (s : List ℕ) → run_ahead (not (eqb g.row.SECOND 0)) (rest s mid.cur) ≡ false =
    λ s. ap (run_ahead (not (eqb g.row.SECOND 0))) (left s) ∙ sym (run_at.ensures s) ∙ c.if-run_at.false in
    let f : Advances (not (eqb g.row.SECOND 0)) a.w 8 st a.out.now mid painted.new.out =
    subst (λ (q : State). Advances (not (eqb g.row.SECOND 0)) a.w 8 st a.out.now q painted.new.out) (sym same)
    (advances_kept (not (eqb g.row.SECOND 0)) a.w 8 k st zeros.result.next a.out.now painted.new.out zeros.ensures.1 zeros.ensures.0
    (fill_part a.out.now painted.new.out st.i 8 k st.colour (omega (arith, pre.4)) zeros.ensures.0 painted.ensures.filled)) in
    let o = c.op-b.ensures in
    let last = advances_op (not (eqb g.row.SECOND 0)) a.w mid c.op-b.result painted.new.out o one no_run (omega (arith, at, few, pre.4, painted.auto.out)) in (
      omega (arith, bits, few, o.few, zeros.ensures.1.fewer),
      omega (arith, bits, o.fewer, zeros.ensures.1.fewer, pre.2),
      (λ s none. omega (arith, at, o.on)),
      advances_on (not (eqb g.row.SECOND 0)) a.w 8 1 9 st mid c.op-b.result a.out.now painted.new.out _ (omega arith) f last,
    )
