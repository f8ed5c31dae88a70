use Rattle.refusal.proofs.AnswerLaws.{accepted}
use Rattle.limbs.proofs.TickLaws.{tick_accepted}
use Rattle.limbs.proofs.tick.Goals as goal

-- `limbs::tick` meets its contract. Assumes nothing.

pub overflow_sub-v : goal.overflow_sub-v
overflow_sub-v c = (tick_accepted _ _ _ (accepted _ c.in_ok-check_tick.ensures)).low

pub tick_limbs-requires : goal.tick_limbs-requires
tick_limbs-requires c = let a = tick_accepted _ _ _ (accepted _ c.in_ok-check_tick.ensures) in (a.high, a.whole, a.right)
