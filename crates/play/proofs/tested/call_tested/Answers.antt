use Rattle.std.proofs.Common.{ℕ, ◌*◌, ◌≤◌, List, sym, ap, ◌∙◌, arith, length}
use Rattle.room.specs.Test.{strips}
use Rattle.stored.specs.Bytes.{entries, put_shown}
use Rattle.stored.specs.Layout.{session_size}
use Rattle.play.proofs.FineLaws.{listed}
use Rattle.play.proofs.CallLaws.{number_is, refused_stays, after_fine, accepted-leaves}
use Rattle.play.proofs.tested.call_tested.Goals as goal

-- `play::tested::call_tested` meets its contract. Assumes nothing.

pub plan-after-requires : goal.plan-after-requires
plan-after-requires c =
    let sound = c.requires.ready_with_session.0.sound in
    let size = c.size_of-size.ensures in record {
      long_enough = (
        c.requires.ready_with_session.2,
        c.requires.ready_with_session.0.gathered.long,
        omega (arith, c.judge.auto.verdicts),
        rw size (omega (arith, sound.widest), sound.highest, sound.counted),
      );
      strips_fit = omega arith;
    }

pub returns-then-after-ne0 : goal.returns-then-after-ne0
returns-then-after-ne0 c =
    let a = c.args in
    let l = a.session.now in
    let v = c.judge.new.verdicts in
    let after = c.plan-after.result in
    let told = rw c.size_of-size.ensures at c.plan-after.ensures in record {
      number = c.from.ensures ∙ number_is a.room.now a.r a.table.now v l
          a.pixels.now a.masks.now a.call
          c.requires.ready_with_session.2 c.judge.ensures after told.plan;
      lent_after = refused_stays a.room.now a.r a.table.now v l
          a.pixels.now a.masks.now a.call
          c.requires.ready_with_session.2 c.judge.ensures after told.plan c.if-after-ne0.true;
    }

pub store_history-requires : goal.store_history-requires
store_history-requires c =
    (c.requires.ready_with_session.2, (c.plan-after.ensures.storable c.if-after-ne0.false).0)

pub store_shown-requires : goal.store_shown-requires
store_shown-requires c =
    let stored = c.store_history in
    let if1 = c.if-after-ne0 in
    let accepted = if1.false in
    let long : session_size ≤ length stored.new.session = omega (arith, stored.auto.session, c.requires.ready_with_session.2) in
    (long, c.plan-after.ensures.few, (c.plan-after.ensures.storable accepted).1)

pub rebuild-requires : goal.rebuild-requires
rebuild-requires c =
    let flat = c.flatten in
    let a = c.args in
    let l = a.session.now in
    let v = c.judge.new.verdicts in
    let after = c.plan-after.result in
    let told = rw c.size_of-size.ensures at c.plan-after.ensures in
    let sound = c.requires.ready_with_session.0.sound in
    let fine =
    after_fine a.room.now a.r a.table.now v l
    a.pixels.now a.masks.now a.call
    c.requires.ready_with_session.2 c.judge.ensures after told.plan c.if-after-ne0.false in
    let room : 4 * after.n ≤ length flat.new.out = omega (arith, flat.auto.out, told.few) in
    let all = listed a.room.now a.r flat.new.out after.n _ room flat.ensures fine in
    let marked = c.plan-after.new.strips in
    let few : strips a.r ≤ length marked = omega (arith, c.plan-after.auto.strips, sound.widest) in record {
      entries_ready = (c.requires.ready_with_session.0, all, few);
      surfaces_fit = c.requires.surfaces_fit;
    }

pub returns : goal.returns
returns c =
    let done = c.rebuild in
    let listed = c.store_shown in
    let stored = c.store_history in
    let flat = c.flatten in
    let y = c.if-after-ne0.false in
    let a = c.args in
    let l = a.session.now in
    let v = c.judge.new.verdicts in
    let after = c.plan-after.result in
    let told = rw c.size_of-size.ensures at c.plan-after.ensures in
    let sound = c.requires.ready_with_session.0.sound in
    let few : strips a.r ≤ 128 = omega (arith, sound.widest) in record {
      number = sym y ∙ number_is a.room.now a.r a.table.now v l
          a.pixels.now a.masks.now a.call
          c.requires.ready_with_session.2 c.judge.ensures after told.plan;
      lent_after = accepted-leaves a.room.now a.r a.table.now v l
          a.pixels.now a.masks.now a.call
          c.requires.ready_with_session.2 c.judge.ensures after told.plan y
          flat.new.out _ _ after.n flat.ensures (omega arith) few (told.touched y) _ _ _
          (listed.ensures ∙ ap (λ (x : List ℕ). put_shown x (entries after)) stored.ensures) done.ensures.pixels_after done.ensures.masks_after;
    }
