use Rattle.std.proofs.Common.{◌<◌, arith}
use Rattle.replay.specs.Replay.{room_of}
use Rattle.session.proofs.PlanLaws.{plan_wrong, plan_full, plan_yes}
use Rattle.scene.specs.declared.Call.TheVariants.{Make}
use Rattle.scene.specs.Steps.{most_steps}
use Rattle.replay.proofs.GroundLaws.{session_base}
use Rattle.session.proofs.plan.plan_on.Goals as goal

-- `session::plan::plan_on` meets its contract. Assumes nothing.

pub returns-then-s-ne0 : goal.returns-then-s-ne0
returns-then-s-ne0 c =
    let A = c.args in
    let T = room_of A.tables in record {
      plan = plan_wrong T A.session.now A.s c.requires.valid_list.plan (Make A.step) c.if-s-ne0.true;
      few_shown = c.requires.valid_list.few;
    }

pub returns-then-from-eq-MOST_STEPS : goal.returns-then-from-eq-MOST_STEPS
returns-then-from-eq-MOST_STEPS c =
    let A = c.args in
    let T = room_of A.tables in record {
      plan = plan_full T A.session.now A.s c.requires.valid_list.plan c.if-s-ne0.false c.refused.result c.from.result
          c.from.ensures A.step c.if-from-eq-MOST_STEPS.true c.refused.ensures.0;
      few_shown = omega (arith, c.refused.ensures.1, c.requires.valid_list.few);
    }

pub step_on-requires : goal.step_on-requires
step_on-requires c =
    let A = c.args in
    let base = (session_base (room_of A.tables) A.session.now).short in
    let h = c.requires.valid_list.counted c.if-s-ne0.false in
    (c.requires.places_fit, omega (arith, c.if-from-eq-MOST_STEPS.false, c.from.ensures))

pub returns : goal.returns
returns c =
    let A = c.args in
    let T = room_of A.tables in
    let h = c.requires.valid_list.counted c.if-s-ne0.false in
    let base = (session_base T A.session.now).short in
    let less : c.from.result < most_steps = omega (arith, c.if-from-eq-MOST_STEPS.false, c.from.ensures) in record {
      plan = plan_yes T A.session.now A.s c.requires.valid_list.plan c.if-s-ne0.false c.step_on.result c.from.result
          c.from.ensures A.places.now (c.requires.valid_list.last c.if-s-ne0.false) A.step
          (c.step_on.ensures.0 c.from.result less);
      few_shown = omega (arith, c.step_on.ensures.1, less, c.from.ensures);
    }
