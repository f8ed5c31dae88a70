use Rattle.std.proofs.Common.{refl, length, rules}
use Rattle.compare.proofs.OutcomeLaws.{test_is, tested, a-refused, b-refused, both_right}
use Rattle.compare.proofs.compare.Goals as goal

-- `compare::compare` meets its contract. Assumes nothing.

pub returns-in_err-ra : goal.returns-in_err-ra
returns-in_err-ra c =
    let args = c.args in
    let a = test_is _ _ _ _ c.nothing_lent.ensures c.test_room.ensures c.in_err-ra.was in
    rw (a-refused args.a.now args.b.now (length args.list.now) _ a) (record {
      answer = search rules;
      list_after = refl;
    })

pub returns-in_err-rb : goal.returns-in_err-rb
returns-in_err-rb c =
    let args = c.args in
    let a = test_is _ _ _ _ c.nothing_lent.ensures c.test_room.ensures c.in_ok-ra.was in
    let b = test_is _ _ _ _ c.nothing_lent-2.ensures c.test_room-2.ensures c.in_err-rb.was in
    rw (b-refused args.a.now args.b.now (length args.list.now) _ a _ b) (record {
      answer = search rules;
      list_after = refl;
    })

pub compare_tested-requires : goal.compare_tested-requires
compare_tested-requires c = (
  tested _ _ (test_is _ _ _ _ c.nothing_lent.ensures c.test_room.ensures c.in_ok-ra.was),
  tested _ _ (test_is _ _ _ _ c.nothing_lent-2.ensures c.test_room-2.ensures c.in_ok-rb.was),
)

pub returns : goal.returns
returns c =
    let args = c.args in
    let a = test_is _ _ _ _ c.nothing_lent.ensures c.test_room.ensures c.in_ok-ra.was in
    let b = test_is _ _ _ _ c.nothing_lent-2.ensures c.test_room-2.ensures c.in_ok-rb.was in
    rw (both_right args.a.now args.b.now (length args.list.now) _ a _ b) c.compare_tested.ensures
