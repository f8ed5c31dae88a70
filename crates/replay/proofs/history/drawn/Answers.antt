use Rattle.std.proofs.Common.{[], true, ◌∙◌, arith}
use Rattle.stored.specs.Bytes.{entries}
use Rattle.replay.specs.Tables.{room_of_tables}
use Rattle.replay.specs.Replay.{entry_at}
use Rattle.replay.proofs.TablesLaws.{allowed_bounds}
use Rattle.replay.proofs.JudgedLaws.{allowed_is, draw_done}
use Rattle.replay.proofs.history.drawn.Goals as goal

-- `replay::history::drawn` meets its contract. Assumes nothing.

pub entry_at-e-requires : goal.entry_at-e-requires
entry_at-e-requires c =
    let A = c.args in
    let e = entry_at A.object A.state A.at in
    let b = allowed_bounds A.objects.rows.now [] A.objects.size e A.objects.sizes
    (allowed_is (room_of_tables A.objects.rows.now [] A.objects.size) e _ true (c.fits.ensures [] A.state) c.if-not-fits.false) in
    omega arith

pub returns : goal.returns
returns c =
    let kept = c.kept in let A = c.args in
    let e = entry_at A.object A.state A.at in (
      λ v.
          let T = room_of_tables A.objects.rows.now v A.objects.size in
          draw_done T c.push.result e (entries A.s) c.entry_at-e.result c.entry_at-e.ensures
          (allowed_is T e _ true (c.fits.ensures v A.state) c.if-not-fits.false) A.refusal c.if-refusal-ne0.false (c.push.ensures.2 ∙ kept.ensures.2)
          (entries kept.result) c.push.ensures.0 (kept.ensures.0 v),
      omega arith,
    )
