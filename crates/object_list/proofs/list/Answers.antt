use Rattle.std.proofs.Common.{◌≤◌, ◌≡◌, sym, ap, ◌∙◌, arith, length}
use Rattle.room.specs.Test.{room_test}
use Rattle.objects.specs.Record.{record_bytes}
use Rattle.object_list.proofs.RowLaws.{listed}
use Rattle.object_list.proofs.list.Goals as goal

pub put_front-requires : goal.put_front-requires
unfolding record_bytes
put_front-requires c =
    let a = c.args in
    let passed = sym c.in_ok-tested.was ∙ c.test_room.ensures ∙ ap (λ l. room_test l a.room.now) c.flags_lent.ensures in
    let long : 16 ≤ length a.out.now = (listed a.room.now a.out.now a.rows.now _ passed).0 in
    let size : length c.record_bytes.result ≡ 16 = ap length c.record_bytes.ensures in
    omega arith

pub list_rows-requires : goal.list_rows-requires
list_rows-requires c =
    let a = c.args in
    let passed = sym c.in_ok-tested.was ∙ c.test_room.ensures ∙ ap (λ l. room_test l a.room.now) c.flags_lent.ensures in
    let i = listed a.room.now a.out.now a.rows.now _ passed in
    (i.2, i.3, i.4, i.1)
