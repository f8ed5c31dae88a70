use Rattle.std.proofs.Common.{arith}
use Rattle.play.specs.Bytes.{lent}
use Rattle.call_list.proofs.RunLaws.{low-call}
use Rattle.call_list.proofs.calls.play_one.Goals as goal

-- `call_list::calls::play_one` meets its contract. Assumes nothing.

pub overflow_cast-result : goal.overflow_cast-result
overflow_cast-result c =
    let a = c.args in
    let low = low-call a.room.now (lent a.session.now a.pixels.now a.masks.now) c.call_from-next.result in
    omega (arith, c.call.ensures.number)

pub returns : goal.returns
returns c = record {
  number = rw (← c.call_from-next.ensures) c.call.ensures.number;
  lent_after = rw (← c.call_from-next.ensures) c.call.ensures.lent_after;
}
