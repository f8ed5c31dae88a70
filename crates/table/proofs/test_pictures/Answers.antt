use Rattle.std.proofs.Common.{ap, ap₂, ◌∙◌, ◌+◌}
use Rattle.strip.specs.Picture.{strip_of}
use Rattle.strip_test.specs.Outcome.{test_of}
use Rattle.table.proofs.TestLaws.{picture-tested, and-then}
use Rattle.table.specs.Body.{strip_at}
use Rattle.table.specs.Test.{strip_test, and_then}
use Rattle.table.proofs.test_pictures.Goals as goal

pub returns : goal.returns
unfolding strip_test strip_at
returns c =
    let a = c.args in let two = c.test_two-two.ensures in
    let first = two.0 ∙ ap (λ l. test_of (strip_of a.h l)) c.strip_body-x.ensures ∙ picture-tested (strip_at a.n a.h a.room.now a.b a.z a.k) in
    let last = two.1 ∙ ap (λ l. test_of (strip_of a.h l)) c.strip_body-y.ensures ∙ picture-tested (strip_at a.n a.h a.room.now a.b a.z (a.k + 1)) in
    c.and.ensures ∙ and-then c.test_two-two.result.a c.test_two-two.result.b ∙ ap₂ and_then first last
