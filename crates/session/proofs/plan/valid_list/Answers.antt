use Rattle.std.proofs.Common.{ℕ, ◌≤◌, ◌≡◌, sym, ◌∙◌, arith}
use Rattle.scene.specs.Steps.{most_steps}
use Rattle.stored.proofs.BytesLaws.{length-down}
use Rattle.stored.specs.Bytes.{step_at}
use Rattle.stored.specs.Layout.{most_shown}
use Rattle.replay.proofs.GroundLaws.{session_base, session_replayed}
use Rattle.replay.specs.Replay.{room_of}
use Rattle.session.proofs.PlanLaws.{valid_long, valid_no, valid_off, valid_yes, valid_last}
use Rattle.session.proofs.plan.valid_list.Goals.{After-replayed-s, then-s-ne0-via-then-s-ne0, then-s-ne0-via-else-s-ne0+then-not-agrees}
use Rattle.session.proofs.plan.valid_list.Goals as goal

-- `session::plan::valid_list` meets its contract. Assumes nothing.

nine : (k : ℕ) → k ≡ 9 → k ≡ 0 → ⊥
nine k e q = omega arith

-- what is replayed has few entries: one at most for each step
few_shown : (c : After-replayed-s) → c.from-n.result ≤ most_steps → c.replayed-s.result.n ≤ most_shown
few_shown c few =
    let A = c.args in
    let T = room_of A.tables in
    let short = (session_replayed T A.session.now _ _ _ c.replayed-s.ensures).few in
    let base = (session_base T A.session.now).short in
    let all = length-down (step_at A.session.now) c.from-n.result in
    omega arith

pub returns-then-n-gt-MOST_STEPS : goal.returns-then-n-gt-MOST_STEPS
returns-then-n-gt-MOST_STEPS c =
    let A = c.args in record {
      plan = valid_long (room_of A.tables) A.session.now c.empty.result c.refused.result c.from-n.result
          c.from-n.ensures c.if-n-gt-MOST_STEPS.true c.refused.ensures.0;
      few = omega arith;
      counted = λ q. absurd (nine _ c.refused.ensures.0 q);
      last = λ q. absurd (nine _ c.refused.ensures.0 q);
    }

pub agrees-requires : goal.agrees-requires
agrees-requires c = (c.requires.session_fits, few_shown (goal.at.agrees-requires c).After-replayed-s (omega arith))

pub returns-then-s-ne0 : goal.returns-then-s-ne0
returns-then-s-ne0 c =
    let s = c.replayed-s in
    let r = c.refused-then-s-ne0 in
    let A = c.args in
    let T = room_of A.tables in
    let R = session_replayed T A.session.now _ _ _ s.ensures in
    let few = few_shown (goal.at.returns-then-s-ne0 c).After-replayed-s (omega arith) in
    record {
      plan = elim c.then-s-ne0.branch [
        | then-s-ne0-via-then-s-ne0 w ↦
            valid_no T A.session.now s.result r.result c.from-n.result c.from-n.ensures _ R w.if-s-ne0.true r.ensures.0
        | then-s-ne0-via-else-s-ne0+then-not-agrees w ↦
            valid_off T A.session.now s.result r.result c.from-n.result c.from-n.ensures _ R w.if-s-ne0.false
            (sym w.if-not-agrees.true ∙ w.agrees.ensures) r.ensures.0
      ];
      few = omega arith;
      counted = λ q. absurd (nine _ r.ensures.0 q);
      last = λ q. absurd (nine _ r.ensures.0 q);
    }

pub returns : goal.returns
returns c =
    let s = c.replayed-s in
    let A = c.args in
    let T = room_of A.tables in
    let R = session_replayed T A.session.now _ _ _ s.ensures in
    let short = R.few in
    let all = length-down (step_at A.session.now) c.from-n.result in
    record {
      plan = valid_yes T A.session.now s.result s.result c.from-n.result c.from-n.ensures _ R c.if-s-ne0.false
          (sym c.if-not-agrees.false ∙ c.agrees.ensures);
      few = few_shown (goal.at.returns c).After-replayed-s (omega arith);
      counted = λ q. omega arith;
      last = valid_last T A.session.now s.result s.result c.from-n.result c.from-n.ensures _ R;
    }
