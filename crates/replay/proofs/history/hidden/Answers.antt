use Rattle.std.proofs.Common.{[], sym, ◌∙◌, arith}
use Rattle.stored.specs.Bytes.{entries}
use Rattle.replay.specs.Tables.{room_of_tables}
use Rattle.replay.proofs.JudgedLaws.{hide_done}
use Rattle.replay.proofs.history.hidden.Goals as goal

-- `replay::history::hidden` meets its contract. Assumes nothing.

pub returns : goal.returns
returns c =
    let e = c.entry_at in
    let A = c.args in (
      hide_done (room_of_tables A.objects.rows.now [] A.objects.size) c.kept.result (record { object = A.object; state = 0; x = 0; y = 0 })
          (entries A.s) e.result e.ensures (sym c.is_shown.ensures ∙ c.if-not-is_shown.false) c.kept.ensures.2 (c.kept.ensures.0 []),
      omega arith,
    )
