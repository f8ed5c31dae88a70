use Rattle.std.proofs.Common.{ℕ, ◌-◌, get_or, length, ap, ◌∙◌, Bool, arith}
use Rattle.scene.specs.declared.Call.TheVariants.{TakeBack}
use Rattle.scene.specs.Steps.{replay}
use Rattle.stored.specs.Bytes.{down, step_at}
use Rattle.replay.specs.Replay.{room_of, base_of}
use Rattle.replay.proofs.PlacesLaws.{accepted_near}
use Rattle.session.specs.Plans.{flagged}
use Rattle.session.proofs.PlanLaws.{planned-small}
use Rattle.session.proofs.TouchLaws.{back_accepted, back_touches}
use Rattle.session.proofs.plan.plan_undo.Goals as goal

-- `session::plan::plan_undo` meets its contract. Assumes nothing.

pub touched-requires : goal.touched-requires
touched-requires c =
    let step = c.step_at-step in
    let n = c.from-newest in
    let after = c.plan_back-after in
    let A = c.args in let t = A.tables in
    let T = room_of t in
    let l = A.session.now in
    let older = down (step_at l) (get_or l 0 0 - 1) in
    let near = accepted_near t.objects.rows.now t.verdicts.now t.objects.size t.objects.sizes (length older) (replay T (base_of T l) older) _
    (back_accepted T l after.result after.ensures.plan c.if-after-eq0.true) in (
      c.requires.strips_and_places_fit.0,
      omega arith,
      after.ensures.few_shown.0,
      rw (step.ensures, n.ensures) near,
    )

pub returns-then-after-eq0 : goal.returns-then-after-eq0
returns-then-after-eq0 c =
    let touched'' = c.touched in
    let touched' = touched'' in let step = c.step_at-step in let n = c.from-newest in
    let after = c.plan_back-after in
    let A = c.args in let t = A.tables in
    let T = room_of t in
    let l = A.session.now in
    record {
      plan = after.ensures.plan;
      few = after.ensures.few_shown.0;
      storable = planned-small t.objects.rows.now t.verdicts.now t.objects.size t.objects.sizes l TakeBack after.result after.ensures.plan;
      touched =
          λ y. rw (step.ensures, n.ensures) at (touched'.ensures t.verdicts.now)
          ∙ ap (λ (f : ℕ → Bool). flagged f 128 A.strips.now) (back_touches T l after.result after.ensures.plan y _ (after.ensures.last_places y));
    }
