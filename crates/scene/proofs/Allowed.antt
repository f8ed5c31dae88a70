-- What an allowed place is, in numbers (document 01, "Sessions", refusal 12): callers cite `allowed-means` and never unfold `allowed`.
-- Assumes nothing.
use Rattle.std.proofs.Common.{ℕ, ◌+◌, ◌*◌, ◌%◌, ◌<◌, ◌≤◌, ◌≡◌, sym, ap, ◌∙◌, Bool, true, ◌&&◌, ◌↔◌, eq-eqb, eqb-true, le-leb, leb-true, lt-ltb, ltb-true, eqb, leb, ltb}
use mathlib.Core.Bool.{and_assoc}
use Rattle.number.proofs.BoolLaws.{both}
use Rattle.scene.specs.declared.Entry.{Entry}
use Rattle.scene.specs.Painting.{Room}
use Rattle.scene.specs.Steps as steps
use Rattle.scene.specs.Steps.{allowed}

-- the three parts
pub record Allowed (room : Room) (e : Entry) : Type 0 where
  pub aligned : (e.x % 8 ≡ 0) × (room.width e.object % 8 ≡ 0)
  pub sized : (0 < room.width e.object) × (0 < room.tall e.object)
  pub inside : (e.x + room.width e.object ≤ 8 * room.strips) × (e.y + room.tall e.object ≤ room.height)

module _ (room : Room) (e : Entry) where
  abbrev w : ℕ
  w = room.width e.object

  abbrev h : ℕ
  h = room.tall e.object

  parts : allowed room e ≡ true → Allowed room e
  unfolding allowed steps.aligned steps.sized steps.inside
  parts q =
      let p = both (steps.aligned room e.object e.x && steps.sized room e.object) _ q in
      let both-parts = both (steps.aligned room e.object e.x) _ p.0 in
      let column = both (eqb (e.x % 8) 0) _ both-parts.0 in
      let size = both (ltb 0 w) _ both-parts.1 in
      let edges = both (leb (e.x + w) (8 * room.strips)) _ p.1 in
      record {
        aligned = (eqb-true (e.x % 8) 0 column.0, eqb-true (w % 8) 0 column.1);
        sized = (ltb-true 0 w size.0, ltb-true 0 h size.1);
        inside = (leb-true (e.x + w) (8 * room.strips) edges.0, leb-true (e.y + h) room.height edges.1);
      }

  whole : Allowed room e → allowed room e ≡ true
  unfolding allowed steps.aligned steps.sized steps.inside
  whole a =
      rw (
        eq-eqb (e.x % 8) 0 a.aligned.0,
        eq-eqb (w % 8) 0 a.aligned.1,
        lt-ltb 0 w a.sized.0,
        lt-ltb 0 h a.sized.1,
        le-leb (e.x + w) (8 * room.strips) a.inside.0,
        le-leb (e.y + h) room.height a.inside.1,
      )

  pub allowed-means : (allowed room e ≡ true) ↔ Allowed room e
  allowed-means = (parts, whole)

  -- the six tests in a row, as code makes them
  pub allowed-row : allowed room e
      ≡ (eqb (e.x % 8) 0 && eqb (w % 8) 0 && ltb 0 w && ltb 0 h && leb (e.x + w) (8 * room.strips) && leb (e.y + h) room.height)
  unfolding allowed steps.aligned steps.sized steps.inside
  allowed-row = sym (regrouped (eqb (e.x % 8) 0 && eqb (w % 8) 0) (ltb 0 w) (ltb 0 h) _ _)
    where
      regrouped : (a b c d f : Bool) → (a && b && c && d && f) ≡ (a && (b && c) && (d && f))
      regrouped a b c d f = and_assoc (a && b && c) d f ∙ ap (λ (t : Bool). t && (d && f)) (and_assoc a b c)

-- rooms of one size, in which the object's image has one size, allow the same places
pub allowed_same : (room other : Room) (e : Entry) → room.width e.object ≡ other.width e.object → room.tall e.object ≡ other.tall e.object
    → room.strips ≡ other.strips → room.height ≡ other.height → allowed room e ≡ allowed other e
unfolding allowed steps.aligned steps.sized steps.inside
allowed_same room other e width tall strips height = rw (width, tall, strips, height)
