use Rattle.std.proofs.Common.{sym, ap, ◌∙◌}
use Rattle.strip_test.proofs.OutcomeLaws.{test-coded, test-empty}
use Rattle.strip.proofs.PictureLaws.{coded_none}
use Rattle.strip_test.specs.Outcome.{test_of}
use Rattle.strip_test.proofs.test_coded.Goals as goal

pub returns-then-body-lt2 : goal.returns-then-body-lt2
returns-then-body-lt2 c =
    let args = c.args in
    λ vertical clear. rw c.into.ensures (sym (ap test_of (coded_none args.way.second vertical clear args.way.w args.h args.body.now c.if-body-lt2.true)))

pub returns-then-h-eq0 : goal.returns-then-h-eq0
returns-then-h-eq0 c =
    let args = c.args in
    λ vertical clear. test-empty args.way.second args.way.w args.h _ c.if-h-eq0.true ∙ sym
    (test-coded args.way.second vertical clear args.way.w args.h args.body.now c.if-body-lt2.false)

pub returns : goal.returns
returns c =
    let a = c.args in
    λ vertical clear. c.test_bits.ensures ∙ sym (test-coded a.way.second vertical clear a.way.w a.h a.body.now c.if-body-lt2.false)
