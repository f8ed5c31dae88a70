use Rattle.std.proofs.Common.{rules, sym, ap, ◌∙◌, arith, length}
use Rattle.point.specs.Call.{pointed_at}
use Rattle.room.specs.Test.{room_test}
use Rattle.room.proofs.TestLaws.{test-passes, flags_long}
use Rattle.image.proofs.CountLaws.{objects-counted, few-objects}
use Rattle.stored.specs.Layout.{session_size}
use Rattle.point.proofs.call.object_at.Goals as goal

pub gather-requires : goal.gather-requires
gather-requires c =
    let right = sym c.in_ok-r.was ∙ c.test_room.ensures in
    let few = few-objects _ _ _ right in
    (few.0, few.1, omega arith)

pub ask-requires : goal.ask-requires
ask-requires c =
    let gather = c.gather in let test-room = c.test_room in let flags-lent = c.flags_lent-lent in
    let a = c.args in
    let right = sym c.in_ok-r.was ∙ test-room.ensures in
    let passes = test-passes _ _ _ (right ∙ ap (λ l. room_test l a.room.now) flags-lent.ensures) in
    let long = flags_long session_size (length a.session.now) (length a.flags.now) c.in_ok-r.r passes.enough in record {
      ready = (record { sound = passes.sound; passed = passes.pictures; gathered = gather.ensures }, objects-counted _ _ _ right);
      session_and_flags_fit = long;
    }

pub returns : goal.returns
unfolding pointed_at
returns c =
    let test-room = c.test_room in
    let flags-lent = c.flags_lent-lent in
    let args = c.args in
    let right = sym c.in_ok-r.was ∙ test-room.ensures ∙ ap (λ l. room_test l args.room.now) flags-lent.ensures in
    rw (← right) c.ask.ensures

pub returns-in_err-r : goal.returns-in_err-r
unfolding pointed_at
returns-in_err-r c =
    let test-room = c.test_room in let flags-lent = c.flags_lent-lent in let args = c.args in
    let no = sym c.in_err-r.was ∙ test-room.ensures ∙ ap (λ l. room_test l args.room.now) flags-lent.ensures in
    rw (← no) (search rules)
