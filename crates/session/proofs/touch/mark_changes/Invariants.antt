use Rattle.std.proofs.Common.{ℕ, ◌≡◌, Bool, ◌||◌, List, take}
use Rattle.scene.specs.Steps.{some}
use Rattle.replay.specs.Tables.{room_of_tables}
use Rattle.session.specs.Plans.{flagged, leaves}
use Rattle.session.proofs.touch.mark_changes.Given as goal

abbrev pub invariant-loop-f : goal.invariant-loop-f
invariant-loop-f loop =
    (v : List ℕ) (g : ℕ → Bool) (l : List ℕ) → loop.initial.strips ≡ flagged g 128 l
    → let T = room_of_tables loop.objects.rows.now v loop.objects.size in
    loop.strips ≡ flagged (λ k. g k || some (leaves T loop.boxes loop.e k) (take loop.f-index loop.f-items)) 128 l
