use Rattle.play.specs.Bytes.{lent}
use Rattle.kildegrom.proofs.rooms.kg_load.Goals as goal

-- What the callee promises of session, pixels and masks, together.

pub returns-clause-lent_after : goal.returns-clause-lent_after
returns-clause-lent_after c =
    let of = c.load.ensures in λ i. lent (of.session_after i) (of.pixels_after i) (of.masks_after i)
