use Rattle.std.proofs.Common.{ℕ, ◌≡◌, ◌&&◌, List}
use Rattle.session.specs.Plans.{flagged, marks}
use Rattle.replay.specs.Tables.{room_of_tables}
use Rattle.scene.specs.Painting.{covers}
use Rattle.session.proofs.touch.mark_strips.Given as goal

abbrev pub invariant-loop-k : goal.invariant-loop-k
invariant-loop-k l =
    (v : List ℕ) → l.strips
    ≡ flagged (marks l.initial.strips l.keep (λ j. l.wanted && covers (room_of_tables l.objects.rows.now v l.objects.size) l.e j)) l.k l.initial.strips
