use Rattle.std.proofs.Common.{ℕ, ◌<◌, ◌≡◌, List}
use Rattle.scene.specs.Steps.{bare}
use Rattle.replay.specs.Tables.{room_of_tables}
use Rattle.replay.specs.Places.{places_in}
use Rattle.replay.proofs.places.fill_homes.Given as goal

abbrev pub invariant-loop-o : goal.invariant-loop-o
invariant-loop-o l =
    (v : List ℕ) (q : ℕ) → q < l.o → places_in l.places q ≡ (bare (room_of_tables l.objects.rows.now v l.objects.size)).last q
