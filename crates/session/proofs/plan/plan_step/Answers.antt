use Rattle.std.proofs.Common.{ℕ, length, ap, ◌∙◌, Bool, arith}
use Rattle.scene.specs.declared.Call.TheVariants.{Make}
use Rattle.scene.specs.Steps.{replay}
use Rattle.stored.specs.Bytes.{steps_of}
use Rattle.replay.specs.Replay.{room_of, base_of}
use Rattle.replay.proofs.PlacesLaws.{accepted_near}
use Rattle.session.specs.Plans.{flagged}
use Rattle.session.proofs.PlanLaws.{accepted-plan, planned-small}
use Rattle.session.proofs.TouchLaws.{before_zero, step_touches}
use Rattle.session.proofs.plan.plan_step.Goals as goal

-- `session::plan::plan_step` meets its contract. Assumes nothing.

pub touched-requires : goal.touched-requires
touched-requires c =
    let after = c.plan_on-after in
    let before = c.valid_list-before in
    let A = c.args in let t = A.tables in
    let T = room_of t in
    let l = A.session.now in
    let accepted = accepted-plan T l A.step after.result after.ensures.plan c.if-after-eq0.true in (
      c.requires.strips_and_places_fit.0,
      omega arith,
      before.ensures.few,
      accepted_near t.objects.rows.now t.verdicts.now t.objects.size t.objects.sizes (length (steps_of l)) (replay T (base_of T l) (steps_of l)) A.step
          accepted.1,
    )

pub returns-then-after-eq0 : goal.returns-then-after-eq0
returns-then-after-eq0 c =
    let touched' = c.touched in let after = c.plan_on-after in let before = c.valid_list-before in
    let A = c.args in let t = A.tables in
    let T = room_of t in
    let l = A.session.now in
    record {
      plan = after.ensures.plan;
      few = after.ensures.few_shown;
      storable = planned-small t.objects.rows.now t.verdicts.now t.objects.size t.objects.sizes l (Make A.step) after.result after.ensures.plan;
      touched =
          λ y.
          let z = before_zero T l A.step before.result after.result before.ensures.plan after.ensures.plan y in
          touched'.ensures t.verdicts.now
          ∙ ap (λ (f : ℕ → Bool). flagged f 128 A.strips.now)
          (step_touches T l A.step before.result after.result before.ensures.plan after.ensures.plan y _ (before.ensures.last z));
    }
