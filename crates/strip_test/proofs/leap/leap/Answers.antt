use Rattle.std.proofs.Common.{eqb-true, ◌%◌, eqb, arith, Bool, sym, subst}
use Rattle.strip_test.proofs.LeapLaws.{leapt_keeps}
use Rattle.strip_test.specs.Leap.{Leapt}
use Rattle.number.proofs.BoolLaws.{and_left, and_right}
use Rattle.strip_test.proofs.leap.leap.Goals as goal

pub view-v-requires : goal.view-v-requires
view-v-requires c = omega (arith, c.requires.3.bits)

pub returns-then-v-eq0 : goal.returns-then-v-eq0
returns-then-v-eq0 c =
    let view = c.view-v in let a = c.args in (
      omega arith,
      omega arith,
      λ w le table. leapt_keeps a.second w a.total a.body.now a.s view.result c.requires.3 view.ensures
          c.if-v-eq0.true,
    )

pub run_to-requires : goal.run_to-requires
run_to-requires c =
    let view = c.view-v in let pre = c.requires in
    (pre.1, omega (arith, pre.2, pre.3.pixels), eqb-true _ _ (and_right c.args.second (eqb (view.result % 32) 19) c.if-second-v.true))

pub returns-then-second-v : goal.returns-then-second-v
returns-then-second-v c =
    let view' = c.view-v in
    let view = view' in let a = c.args in
    let f = c.run_to.ensures in (
      f.0,
      f.1,
      λ w le table.
          subst (λ (q : Bool). Leapt q w a.total a.body.now a.s c.run_to.result)
          (sym (and_left a.second (eqb (view.result % 32) 19) c.if-second-v.true))
          (f.2 w a.body.now view.ensures c.requires.3),
    )

pub four-requires : goal.four-requires
four-requires c =
    let pre = c.requires in
    (pre.0, pre.1, omega (arith, pre.2, pre.3.pixels))

pub returns : goal.returns
returns c =
    let view = c.view-v in let a = c.args in
    let f = c.four.ensures in
    (f.0, f.1, λ w le table. f.2 a.second w a.total a.body.now le table view.ensures c.requires.3)
