-- The planes of a mask buffer as one grid, width strips wide and planes * h rows high. Assumes nothing.
use Rattle.std.proofs.Common.{ℕ, ◌+◌, ◌-◌, ◌*◌, ◌≤◌, mul-le-mul_right, arith}
use Rattle.grid.specs.Grid.{Inside}
use Rattle.grid.specs.Mask.{Plane}

pub plane-inside : (len width h planes k s y0 n : ℕ) → Plane len width h planes k s y0 n → Inside len width (planes * h) s ((k - 1) * h + y0) 1 n
plane-inside len width h planes k s y0 n p =
    record {
      wide = omega arith;
      high = omega (arith, mul-le-mul_right h p.few);
      room = p.room;
      right = omega arith;
      low = omega (arith, mul-le-mul_right h below);
    }
  where
    below : (k - 1) + 1 ≤ planes
    below = omega arith
