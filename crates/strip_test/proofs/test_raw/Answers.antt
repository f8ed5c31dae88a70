use Rattle.std.proofs.Common.{sym, ap, arith, drop, length-drop}
use Rattle.strip.proofs.PictureLaws.{raw_short, raw_full}
use Rattle.strip_test.specs.Outcome.{test_of}
use Rattle.strip_test.proofs.test_raw.Goals as goal

pub returns-then-body-h : goal.returns-then-body-h
returns-then-body-h c =
    let a = c.args in
    let body = a.body.now in
    rw c.into.ensures (sym (ap test_of (raw_short a.h (drop 1 body) (omega (arith, length-drop 1 body, c.if-body-h.true)))))

pub returns : goal.returns
returns c =
    let a = c.args in
    let body = a.body.now in
    sym (ap test_of (raw_full a.h (drop 1 body) (omega (arith, length-drop 1 body, c.if-body-h.false))))
