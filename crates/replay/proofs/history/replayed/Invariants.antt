use Rattle.scene.specs.Steps.{bare}
use Rattle.stored.specs.Bytes.{step_at, down}
use Rattle.replay.specs.Replay.{Replayed, room_of}
use Rattle.replay.proofs.history.replayed.Given as goal

abbrev pub invariant-loop-i : goal.invariant-loop-i
invariant-loop-i l =
    let room = room_of l.tables in
    Replayed room (bare room) (down (step_at l.session) l.i) l.places l.s
