use Rattle.std.proofs.Common.{◌≡◌, sym, ◌∙◌, rules, Ok, Err}
use Rattle.play.specs.Bytes.{lent}
use Rattle.call_list.proofs.EndLaws.{Ran, refused-run, played-run}
use Rattle.call_list.proofs.run.Goals as goal

-- `call_list::run` meets its contract. Assumes nothing.

pub returns-in_err-load : goal.returns-in_err-load
returns-in_err-load c =
    let a = c.args in
    let of = c.load.ensures in
    let before = lent a.session.now a.pixels.now a.masks.now in
    let after = lent c.load.new.session c.load.new.pixels c.load.new.masks in
    let was : c.load.result ≡ Err c.in_err-load.field-0.0 = search rules in
    let ran : Ran a.room.now before a.calls.now a.numbers.now c.load.result after a.numbers.now =
    refused-run a.room.now before a.calls.now a.numbers.now _ of.answer after of.session_after of.pixels_after of.masks_after _ was in
    let passed : c.from_residual.result ≡ Err c.in_err-load.field-0.0 = search rules in
    record {
      answer = passed ∙ sym was ∙ ran.0;
      lent_after = ran.1.0;
      numbers_after = ran.1.1.0;
      run_holds = ran.1.1.1;
    }

pub returns : goal.returns
returns c =
    let a = c.args in
    let of = c.load.ensures in
    let all = c.play_all.ensures in
    let passed : c.load.result ≡ Ok tt = search rules in
    let ran = played-run a.room.now (lent a.session.now a.pixels.now a.masks.now) a.calls.now a.numbers.now
    _ of.answer _ of.session_after of.pixels_after of.masks_after _ _ all.lent_after all.numbers_after passed in
    record {
      answer = ran.0;
      lent_after = ran.1.0;
      numbers_after = ran.1.1.0;
      run_holds = ran.1.1.1;
    }
