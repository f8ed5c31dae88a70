use Rattle.scene.specs.Steps.{spot_of}
use Rattle.replay.specs.Places.{scene_in}
use Rattle.replay.proofs.PlacesLaws.{hide_moves, draw_moves}
use Rattle.replay.proofs.places.store_step.Goals as goal

-- `replay::places::store_step` meets its contract. Assumes nothing.

pub returns-in-Hide : goal.returns-in-Hide
returns-in-Hide c = λ es. rw c.in-Hide.is (hide_moves c.args.places.now es c.in-Hide.field-0)

pub returns-in-Draw : goal.returns-in-Draw
returns-in-Draw c =
    let l = c.args.places.now in
    λ es. rw c.in-Draw.is (draw_moves l _ es c.in-Draw.object c.in-Draw.field-1 c.in-Draw.place
    (c.store_place.ensures (spot_of (scene_in l es) c.in-Draw.object c.in-Draw.place) (c.spot_of-at.ensures.spot es)))
