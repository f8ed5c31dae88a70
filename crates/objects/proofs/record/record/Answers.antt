use Rattle.std.proofs.Common.{length, arith, ◌≤◌, ◌≡◌, sym, ap, ◌∙◌}
use Rattle.room.proofs.TestLaws.{test-passes, fixed_long}
use Rattle.objects.specs.Record.{record_bytes}
use Rattle.room.specs.Test.{room_test}
use Rattle.objects.proofs.record.record.Goals as goal

pub put_front-requires : goal.put_front-requires
unfolding record_bytes
put_front-requires c =
    let passed = sym c.in_ok-room.was ∙ c.test_room.ensures ∙ ap (λ l. room_test l c.args.s.now) c.fixed_lent.ensures in
    let long : 16 ≤ length c.args.out.now = fixed_long _ _ _ (test-passes _ _ _ passed).enough in
    let size : length c.record_bytes.result ≡ 16 = ap length c.record_bytes.ensures in
    omega arith
