use Rattle.std.proofs.Common.{◌∙◌, drop_of_length-le}
use Rattle.refusal.proofs.AnswerLaws.{accepted}
use Rattle.cast.specs.Call.{first_bad}
use Rattle.cast.proofs.NumberLaws.{right_turn}
use Rattle.cast.proofs.numbers.check_records.Goals as goal

-- `cast::numbers::check_records` meets its contract. Assumes nothing.

pub loop-a-preserved : goal.loop-a-preserved
loop-a-preserved c =
    right_turn _ _ _ c.loop-a-test.true (accepted _ c.in_ok-check_record.ensures) ∙ c.loop-a.invariant

pub returns : goal.returns
unfolding first_bad
returns c = let none_bad = rw (drop_of_length-le c.args.list.now c.loop-a-test.false) at c.loop-a.invariant in rw (← none_bad)
