use Rattle.std.proofs.Common.{eq-eqb, add-one, arith}
use Rattle.replay.specs.Replay.{room_of}
use Rattle.stored.specs.Bytes.{step_at, down}
use Rattle.scene.specs.Steps.{bare, replay, replays}
use Rattle.stored.proofs.BytesLaws.{length-down}
use Rattle.replay.proofs.GroundLaws.{bare_base}
use Rattle.replay.proofs.history.replayed.Goals as goal

-- `replay::history::replayed` meets its contract. Assumes nothing.

pub loop-i-init : goal.loop-i-init
unfolding replays replay bare
loop-i-init c = record {
  right = eq-eqb c.empty-s.result.refusal 0 c.empty-s.ensures.2;
  list = λ q. c.empty-s.ensures.0;
  few = omega arith;
  last = λ q. c.fill_homes.ensures c.args.tables.verdicts.now;
}

pub next-s-requires : goal.next-s-requires
next-s-requires c =
    let few = c.loop-i.invariant.few in
    let base = (bare_base (room_of c.args.tables)).short in
    let all = length-down (step_at c.args.session.now) c.loop-i.i in
    (omega arith, omega arith)

pub loop-i-preserved : goal.loop-i-preserved
loop-i-preserved c =
    let A = c.args in
    let i = c.loop-i.i in
    let g = bare (room_of A.tables) in
    rw (add-one i, ← c.step_at.ensures)
    (c.next-s.ensures g (down (step_at A.session.now) i) (omega (arith, length-down (step_at A.session.now) i)) c.loop-i.invariant)
