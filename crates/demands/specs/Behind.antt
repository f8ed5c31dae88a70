-- Demand 2's words on what hides an actor's pixel, for the pages that speak of stamps: Demand2 and Request7.
use Rattle.std.specs.Prelude.{ℕ, ◌≤◌, ◌≡◌, List}
use Rattle.actor.specs.Hidden.{mask_bit}

-- the clip level names a plane of the room, and that plane's bit is set at (x, y)
abbrev pub Behind : List ℕ → (w h n clip x y : ℕ) → Type 0
Behind masks w h n clip x y = (1 ≤ clip) × (clip ≤ n) × (mask_bit masks w h clip x y ≡ 1)
