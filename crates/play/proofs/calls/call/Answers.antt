use Rattle.std.proofs.Common.{length, arith, sym, ap, ◌∙◌}
use Rattle.image.proofs.CountLaws.{objects-counted, few-objects}
use Rattle.room.proofs.TestLaws.{test-passes, surfaces-long}
use Rattle.room.specs.Test.{room_test}
use Rattle.stored.specs.Layout.{session_size}
use Rattle.play.proofs.calls.call.Goals as goal

-- `play::calls::call` meets its contract. Assumes nothing.

pub gather-requires : goal.gather-requires
gather-requires c =
    let right = sym c.in-Ok.is ∙ c.test_room.ensures in
    let few = few-objects _ _ _ right in
    (few.0, few.1, omega arith)

pub call_tested-requires : goal.call_tested-requires
call_tested-requires c =
    let passed = c in
    let lent = c.surfaces_lent-lent in
    let a = c.args in
    let right = sym c.in-Ok.is ∙ c.test_room.ensures in
    let passes = test-passes _ _ _ (right ∙ ap (λ l. room_test l a.room.now) lent.ensures) in
    let long =
    surfaces-long session_size (length a.session.now) (length a.pixels.now) (length a.masks.now) c.in-Ok.r passes.enough in
    let gathered = c.gather.ensures in record {
      ready_with_session = (record { sound = passes.sound; passed = passes.pictures; gathered = gathered }, objects-counted _ _ _ right, long.0);
      surfaces_fit = (long.1, long.2);
    }

pub returns-in-Ok : goal.returns-in-Ok
returns-in-Ok c =
    let done = c.call_tested in
    let lent = c.surfaces_lent-lent in
    let a = c.args in
    let right = sym c.in-Ok.is ∙ c.test_room.ensures ∙ ap (λ l. room_test l a.room.now) lent.ensures in record {
      number = rw (← right) done.ensures.number;
      lent_after = rw (← right) done.ensures.lent_after;
    }

pub returns-in-Err : goal.returns-in-Err
returns-in-Err c =
    let lent = c.surfaces_lent-lent in
    let a = c.args in
    let no = sym c.in-Err.is ∙ c.test_room.ensures ∙ ap (λ l. room_test l a.room.now) lent.ensures in record {
      number = rw (← no) (c.from.ensures ∙ c.number.ensures);
      lent_after = rw (← no);
    }
