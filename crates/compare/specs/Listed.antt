-- What the list of a comparison says (change request 1): which strips stand in it, in what order, and what differs there.
use Rattle.std.specs.Prelude.{ℕ, ◌/◌, ◌≤◌, ◌<◌, ◌≡◌, List, [], ◌∷◌, ◌⊎◌}
use Rattle.room.specs.Test.{strips}
use Rattle.room.specs.declared.Room.{Room}
use Rattle.load.specs.Load.{background}
use Rattle.compare.specs.Compare.{Rooms, Difference, declared, most}

-- d is one of the list
abbrev pub Stands : Difference → List Difference → Type 0
Stands d [] = ⊥
Stands d (e ∷ es) = (d ≡ e) ⊎ Stands d es

-- every strip of the list is behind strip k
abbrev pub Behind : ℕ → List Difference → Type 0
Behind k [] = Unit {0}
Behind k (d ∷ ds) = (k < d.strip) × Behind k ds

-- "left to right"
abbrev pub Rising : List Difference → Type 0
Rising [] = Unit {0}
Rising (d ∷ ds) = Behind d.strip ds × Rising ds

-- a pixel of strip k differs
abbrev pub PixelDiffers : Rooms → (k : ℕ) → Type 0
PixelDiffers m k =
    (x : ℕ) × (y : ℕ) × (x / 8 ≡ k) × (y < m.ra.height) × (background m.a m.ra x y ≡ background m.b m.rb x y → ⊥)

-- a row of plane p differs there
abbrev pub PlaneDiffers : Rooms → (p k : ℕ) → Type 0
PlaneDiffers m p k = (y : ℕ) × (y < m.ra.height) × (declared m.a m.ra p k y ≡ declared m.b m.rb p k y → ⊥)

-- "whose pixels or whose rows in any plane differ"
abbrev pub StripDiffers : Rooms → (k : ℕ) → Type 0
StripDiffers m k = PixelDiffers m k ⊎ ((p : ℕ) × (1 ≤ p) × (p ≤ most m) × PlaneDiffers m p k)

-- two rooms decode to the same content: sizes, pixels, and every plane, undeclared ones as zero; their bytes may differ
pub record SameContent (s : List ℕ) (r : Room) (s' : List ℕ) (r' : Room) : Type 0 where
  pub width : r.width ≡ r'.width
  pub height : r.height ≡ r'.height
  pub pixels : (x y : ℕ) → x < r.width → y < r.height → background s r x y ≡ background s' r' x y
  pub planes : (p k y : ℕ) → 1 ≤ p → k < strips r → y < r.height → declared s r p k y ≡ declared s' r' p k y
