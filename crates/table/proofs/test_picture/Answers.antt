use Rattle.std.proofs.Common.{ap, ◌∙◌}
use Rattle.strip.specs.Picture.{strip_of}
use Rattle.strip_test.specs.Outcome.{test_of}
use Rattle.table.proofs.TestLaws.{picture-tested}
use Rattle.table.specs.Body.{strip_at}
use Rattle.table.specs.Test.{strip_test}
use Rattle.table.proofs.test_picture.Goals as goal

pub returns : goal.returns
unfolding strip_test strip_at
returns c =
    let a = c.args in
    c.test_strip.ensures ∙ ap (λ l. test_of (strip_of a.h l)) c.strip_body.ensures ∙ picture-tested (strip_at a.n a.h a.room.now a.b a.z a.k)
