use Rattle.std.proofs.Common.{◌∙◌, refl, true, false, arith}
use Rattle.scene.specs.Steps.{without}
use Rattle.stored.specs.Bytes.{entries}
use Rattle.replay.specs.Replay.{goes}
use Rattle.replay.specs.Tables.{room_of_tables}
use Rattle.replay.proofs.Lists.{without_more}
use Rattle.replay.proofs.list.kept.Goals.{then-not-goes, else-not-goes}
use Rattle.replay.proofs.list.kept.Goals as goal

-- `replay::list::kept` meets its contract. Assumes nothing.

pub loop-f-init : goal.loop-f-init
unfolding without
loop-f-init c = record {
  few = omega arith;
  right = c.empty-t.ensures.2;
  so_far = λ v. c.empty-t.ensures.0;
}

pub loop-f-preserved : goal.loop-f-preserved
loop-f-preserved c =
    let A = c.args in
    let inv = c.loop-f.invariant in
    elim c.if-not-goes.branch [
      | then-not-goes w ↦ rw w.t-is (record {
        few = omega arith;
        right = w.append.ensures.2 ∙ inv.right;
        so_far = λ v. without_more false (goes (room_of_tables A.objects.rows.now v A.objects.size) A.boxes A.e) (entries A.s) c.loop-f.f-index _ _
            (entries c.loop-f.t) c.loop-f-test.true w.append.ensures.0 (w.if-not-goes.ensures v) (inv.so_far v);
      })
      | else-not-goes w ↦ rw w.t-is (record {
        few = omega arith;
        right = inv.right;
        so_far = λ v. without_more true (goes (room_of_tables A.objects.rows.now v A.objects.size) A.boxes A.e) (entries A.s) c.loop-f.f-index _ _
            (entries c.loop-f.t) c.loop-f-test.true refl (w.if-not-goes.ensures v) (inv.so_far v);
      })
    ]
