use Rattle.std.proofs.Common.{sym, ◌∙◌}
use Rattle.scene.specs.Painting.{covers}
use Rattle.replay.specs.Replay.{goes}
use Rattle.replay.specs.Tables.{room_of_tables}
use Rattle.session.proofs.TouchLaws.{gone_yes}
use Rattle.session.proofs.touch.mark_gone.Goals as goal

-- `session::touch::mark_gone` meets its contract. Assumes nothing.

pub returns-then-goes : goal.returns-then-goes
returns-then-goes c =
    let A = c.args in
    λ v g l h.
    let T = room_of_tables A.objects.rows.now v A.objects.size in
    gone_yes g (covers T A.f) l A.strips.now _ 128 (goes T A.boxes A.e A.f) h (sym (c.goes.ensures v) ∙ c.if-goes.true)
    (c.mark_strips.ensures v)
