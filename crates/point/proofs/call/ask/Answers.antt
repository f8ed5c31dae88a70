use Rattle.std.proofs.Common.{arith, ap, ◌∙◌, Err}
use Rattle.point.proofs.CallLaws.{asked_wrong, asked-right_of, asked-below, asked_in}
use Rattle.point.specs.Call.{asked}
use Rattle.point.proofs.call.ask.Goals.{then-r-px-via-then-r-px, then-r-px-via-else-r-px+then-r-py}
use Rattle.point.proofs.call.ask.Goals as goal

pub judge_history-requires : goal.judge_history-requires
judge_history-requires c = record {
  ready = c.requires.ready;
  session_and_verdicts_fit = (c.requires.session_and_flags_fit.0, omega arith);
}

pub valid_shown-shown-requires : goal.valid_shown-shown-requires
valid_shown-shown-requires c =
    let judge-history = c.judge_history in
    let pre = c.requires in
    let sound = pre.ready.0.sound in
    let e = c.size_of-size.ensures in record {
      long_enough = (
        pre.session_and_flags_fit.0,
        pre.ready.0.gathered.long,
        omega (arith, judge-history.auto.verdicts),
        rw e (omega (arith, sound.widest), sound.highest, sound.counted),
      );
      places_fit = omega arith;
    }

pub returns-then-shown-ne0 : goal.returns-then-shown-ne0
returns-then-shown-ne0 c =
    let a = c.args in
    ap Err c.into.ensures
    ∙ asked_wrong a.room.now a.r a.table.now c.judge_history.new.verdicts a.session.now a.flags.now a.x a.y c.judge_history.ensures
    c.valid_shown-shown.result (rw c.size_of-size.ensures at c.valid_shown-shown.ensures.plan) c.if-shown-ne0.true

pub returns-then-r-px : goal.returns-then-r-px
returns-then-r-px c =
    let a = c.args in
    let v = c.judge_history.new.verdicts in
    let shown = c.valid_shown-shown.result in
    let plan = rw c.size_of-size.ensures at c.valid_shown-shown.ensures.plan in
    let right = c.if-shown-ne0.false in
    ap Err c.into-then-r-px.ensures ∙ elim c.then-r-px.branch [
      | then-r-px-via-then-r-px w ↦
          asked-right_of a.room.now a.r a.table.now v a.session.now a.flags.now a.x a.y c.judge_history.ensures shown plan right
          (omega (arith, c.wide_u32-px.ensures.0, w.if-r-px.true))
      | then-r-px-via-else-r-px+then-r-py w ↦
          asked-below a.room.now a.r a.table.now v a.session.now a.flags.now a.x a.y c.judge_history.ensures shown plan right
          (omega (arith, c.wide_u32-px.ensures.0, w.if-r-px.false)) (omega (arith, c.wide_u32-py.ensures.0, w.if-r-py.true))
    ]

pub seek-requires : goal.seek-requires
seek-requires c =
    let valid-shown = c.valid_shown-shown in
    let e = c.size_of-size.ensures in
    let pre = c.requires in
    let sound = pre.ready.0.sound in record {
      size_right = (rw e pre.ready.1, rw e (omega (arith, sound.widest), sound.highest, sound.counted), rw e pre.session_and_flags_fit.1);
      places_fit = (omega arith, valid-shown.ensures.few);
    }

pub returns : goal.returns
returns c =
    let a = c.args in
    let px = c.wide_u32-px in let py = c.wide_u32-py in
    let shown = c.valid_shown-shown in
    let right = c.if-shown-ne0.false in
    asked_in a.room.now a.r a.table.now c.judge_history.new.verdicts a.session.now a.flags.now px.result py.result c.judge_history.ensures
    shown.result (rw c.size_of-size.ensures at shown.ensures.plan) right c.if-r-px.false c.if-r-py.false _ _
    (rw c.size_of-size.ensures at (shown.ensures.last right)) c.seek.ensures
    ∙ (λ i. asked a.room.now a.r a.session.now a.flags.now (px.ensures.0 i) (py.ensures.0 i))
