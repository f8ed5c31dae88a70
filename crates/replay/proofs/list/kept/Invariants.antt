use Rattle.std.proofs.Common.{ℕ, ◌≤◌, ◌≡◌, take, List}
use Rattle.scene.specs.Steps.{without}
use Rattle.stored.specs.Bytes.{entries}
use Rattle.replay.specs.Replay.{goes}
use Rattle.replay.specs.Tables.{room_of_tables}
use Rattle.replay.proofs.list.kept.Given as goal

abbrev pub invariant-loop-f : goal.invariant-loop-f
invariant-loop-f l = record {
  few : l.t.n ≤ l.f-index;
  right : l.t.refusal ≡ 0;
  so_far : (v : List ℕ) → entries l.t ≡ without (goes (room_of_tables l.objects.rows.now v l.objects.size) l.boxes l.e) (take l.f-index l.f-items);
}
