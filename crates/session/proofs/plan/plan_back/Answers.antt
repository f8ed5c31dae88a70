use Rattle.std.proofs.Common.{ℕ, ◌-◌, ◌≡◌, sym, ◌∙◌, arith}
use Rattle.replay.specs.Replay.{room_of}
use Rattle.session.proofs.PlanLaws.{plan_wrong, back_none, back_yes, back_last}
use Rattle.stored.proofs.BytesLaws.{length-down}
use Rattle.scene.specs.declared.Call.TheVariants.{TakeBack}
use Rattle.stored.specs.Bytes.{step_at}
use Rattle.replay.proofs.GroundLaws.{session_base, session_replayed}
use Rattle.session.proofs.plan.plan_back.Goals as goal

-- `session::plan::plan_back` meets its contract. Assumes nothing.

pub returns-then-s-ne0 : goal.returns-then-s-ne0
returns-then-s-ne0 c =
    let A = c.args in
    let T = room_of A.tables in
    let r = c.valid_list-s in record {
      plan = plan_wrong T A.session.now r.result r.ensures.plan TakeBack c.if-s-ne0.true;
      few_shown = (r.ensures.few, λ q. absurd (c.if-s-ne0.true q));
      last_places = λ q. absurd (c.if-s-ne0.true q);
    }

pub returns-then-n-eq0 : goal.returns-then-n-eq0
returns-then-n-eq0 c =
    let n = c.from-n in
    let A = c.args in
    let T = room_of A.tables in
    let r = c.valid_list-s in record {
      plan = back_none T A.session.now r.result r.ensures.plan c.if-s-ne0.false c.refused.result n.result n.ensures
          c.if-n-eq0.true c.refused.ensures.0;
      few_shown = (omega (arith, c.refused.ensures.1, r.ensures.few), λ q. absurd (thirteen (sym c.refused.ensures.0 ∙ q)));
      last_places = λ q. absurd (thirteen (sym c.refused.ensures.0 ∙ q));
    }
  where
    thirteen : ◌≡◌ {A = ℕ} 13 0 → ⊥
    thirteen q = omega arith

pub returns : goal.returns
returns c =
    let n = c.from-n in
    let A = c.args in
    let T = room_of A.tables in
    let r = c.valid_list-s in
    let h = r.ensures.counted c.if-s-ne0.false in
    let t = c.replayed in
    let R = session_replayed T A.session.now _ _ _ t.ensures in
    let base = (session_base T A.session.now).short in
    let all = length-down (step_at A.session.now) (n.result - 1) in
    let none = c.if-n-eq0.false in record {
      plan = back_yes T A.session.now r.result r.ensures.plan c.if-s-ne0.false t.result n.result n.ensures none _ R;
      few_shown = (omega (arith, n.ensures), λ q. (omega (arith, n.ensures), omega (arith, none, n.ensures)));
      last_places = back_last T A.session.now r.result r.ensures.plan c.if-s-ne0.false t.result n.result n.ensures none _ R;
    }
