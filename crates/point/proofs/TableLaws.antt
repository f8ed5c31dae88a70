-- The code's tables tell the room's objects and the shown states: the hit test by the tables is the definition's, and so is the object.
use Rattle.std.proofs.Common.{ℕ, zero, suc, ◌+◌, ◌*◌, ◌-◌, ◌≤◌, ◌<◌, ◌≡◌, refl, sym, ap, ◌∙◌, Bool, true, false, cond, ◌&&◌, List, [], arith, eq-eqb, leb-true, eqb, leb, get_or}
use mathlib.Core.Bool.{false≢true}
use Rattle.objects.specs.Object.{object_block}
use Rattle.image.specs.Gathered.{Filled}
use Rattle.image.specs.Image.{object_count}
use Rattle.image.specs.Rows.{header_row, object_row}
use Rattle.scene.specs.Steps.{Scene}
use Rattle.scene.specs.declared.Entry.{Entry}
use Rattle.replay.specs.declared.Size.{Size}
use Rattle.replay.specs.declared.Spot as code
use Rattle.replay.specs.Places.{places_in, scene_in, IsAt}
use Rattle.replay.specs.Tables.{cell_of}
use Rattle.replay.proofs.TablesLaws.{cell_row}
use Rattle.climb.specs.Objects.{Objects}
use Rattle.climb.specs.Climb.{state_of, lets, is_open}
use Rattle.climb.specs.Tables.{boxes_of, States, state_in}
use Rattle.point.specs.Objects.{cdhd_byte, objects_of}
use Rattle.point.specs.Point.{left, top, spans, holds, hit, lowest, object_at}
use Rattle.point.specs.Tables.{holds_in, hit_in}

-- ---- the box as the code finds it

module _ (t places : List ℕ) (size : Size) (o : ℕ) (one : 1 ≤ o) (le : o ≤ size.count) where
  row : (k : ℕ) → get_or t (8 * o + k) 0 ≡ cell_of t size.count o k
  row k = cell_row t size.count o k (λ e. omega arith) le

  pub box_set : (at : code.Spot) → IsAt at (places_in places o) → at.set ≡ true
      → (at.x ≡ left (boxes_of t size.count) (scene_in places []) o) × (at.y ≡ top (boxes_of t size.count) (scene_in places []) o)
  unfolding left top
  box_set at is e = let s = sym is.set ∙ e in (is.x ∙ rw s, is.y ∙ rw s)

  pub box_home : (at : code.Spot) → IsAt at (places_in places o) → at.set ≡ false → (x y : ℕ) → x ≡ cell_of t size.count o 1
      → y ≡ cell_of t size.count o 2
      → (x ≡ left (boxes_of t size.count) (scene_in places []) o) × (y ≡ top (boxes_of t size.count) (scene_in places []) o)
  unfolding left top
  box_home at is e x y f g = let s = sym is.set ∙ e in (rw s (f ∙ sym (row 1)), rw s (g ∙ sym (row 2)))

  pub holds_told : (x y : ℕ) (at : code.Spot) (w d : ℕ) → at.x ≡ left (boxes_of t size.count) (scene_in places []) o
      → at.y ≡ top (boxes_of t size.count) (scene_in places []) o → w ≡ cell_of t size.count o 3 → d ≡ cell_of t size.count o 4
      → (spans at.x w x && spans at.y d y) ≡ holds_in t places size x y o
  unfolding holds
  holds_told x y at w d a b e f = λ i. spans (a i) ((e ∙ sym (row 3)) i) x && spans (b i) ((f ∙ sym (row 4)) i) y

-- ---- the hit test, from the box and the flag byte, and from the chain of containers

pub hit_told : (t states places : List ℕ) (size : Size) (flags : List ℕ) (x y o : ℕ) (first chain : Bool)
    → first ≡ (holds_in t places size x y o && eqb (get_or flags (o - 1) 0) 0)
    → chain ≡ is_open (boxes_of t size.count) (state_in states) size.count o
    → (first && chain) ≡ hit_in t states places size flags x y o
unfolding hit_in
hit_told t states places size flags x y o first chain e f = λ i. e i && f i

-- ---- numbers below a count that pass alike

lowest-same : (f g : ℕ → Bool) (n from : ℕ) → ((o : ℕ) → from ≤ o → o < from + n → f o ≡ g o) → lowest f from n ≡ lowest g from n
unfolding lowest
lowest-same f g zero from h = refl
lowest-same f g (suc n) from h =
    let e = h from (omega arith) (omega arith) in
    let i = lowest-same f g n (suc from) (λ o a b. h o (omega arith) (omega arith)) in
    rw (e, i)

-- ---- the tables tell the room

module _ (s t₀ t : List ℕ) (filled : Filled s (object_row true s) t₀ t) (size : Size) (all : size.count ≡ object_count s) (few : size.count ≤ 128) where
  abbrev S : Objects
  S = objects_of s

  abbrev B : Objects
  B = boxes_of t size.count

  module _ (o : ℕ) (one : 1 ≤ o) (le : o ≤ size.count) where
    cell : (k : ℕ) → k < 8 → get_or t (8 * o + k) 0 ≡ get_or (object_row true s (object_block s o)) k 0
    cell k h = filled.new o one (omega (arith, all)) k h

    x_is : S.x o ≡ B.x o
    unfolding objects_of cdhd_byte header_row
    x_is = sym (cell 1 (omega arith))

    y_is : S.y o ≡ B.y o
    unfolding objects_of cdhd_byte header_row
    y_is = sym (cell 2 (omega arith))

    width_is : S.width o ≡ B.width o
    unfolding objects_of cdhd_byte header_row
    width_is = sym (cell 3 (omega arith))

    height_is : S.height o ≡ B.height o
    unfolding objects_of cdhd_byte header_row
    height_is = sym (cell 4 (omega arith))

    flags_is : S.flags o ≡ B.flags o
    unfolding objects_of cdhd_byte header_row
    flags_is = sym (cell 5 (omega arith))

    parent_is : S.parent o ≡ B.parent o
    unfolding objects_of cdhd_byte header_row
    parent_is = sym (cell 6 (omega arith))

  count_is : S.count ≡ B.count
  unfolding objects_of
  count_is = sym all

  -- the climb
  module _ (es : List Entry) (states : List ℕ) (told : States es states) where
    climb_same : (links o : ℕ) → 1 ≤ o → o ≤ size.count → is_open S (state_of es) links o ≡ is_open B (state_in states) links o
    unfolding is_open
    climb_same zero o one le = refl
    climb_same (suc links) o one le =
        (λ i. cond (eqb (parent_is o one le i) 0) true (leb (parent_is o one le i) (count_is i) && lets (flags_is o one le i)
        (state_of es (parent_is o one le i)) && is_open S (state_of es) links (parent_is o one le i)))
        ∙ go (λ k one le. climb_same links k one le) (eqb (B.parent o) 0) refl
      where
        on : ((k : ℕ) → 1 ≤ k → k ≤ size.count → is_open S (state_of es) links k ≡ is_open B (state_in states) links k)
            → (b : Bool) → leb (B.parent o) size.count ≡ b → (B.parent o ≡ 0 → ⊥)
            → (b && lets (B.flags o) (state_of es (B.parent o)) && is_open S (state_of es) links (B.parent o))
            ≡ (b && lets (B.flags o) (state_in states (B.parent o)) && is_open B (state_in states) links (B.parent o))
        on again false e f = refl
        on again true e f =
            let h = leb-true (B.parent o) size.count e in
            λ i. lets (B.flags o) (sym (told (B.parent o) (omega arith)) i) && again (B.parent o) (omega arith) h i

        go : ((k : ℕ) → 1 ≤ k → k ≤ size.count → is_open S (state_of es) links k ≡ is_open B (state_in states) links k)
            → (b : Bool) → eqb (B.parent o) 0 ≡ b
            → cond b true (leb (B.parent o) size.count && lets (B.flags o) (state_of es (B.parent o)) && is_open S (state_of es) links (B.parent o))
            ≡ cond b true (leb (B.parent o) size.count && lets (B.flags o) (state_in states (B.parent o)) && is_open B (state_in states) links (B.parent o))
        go again true e = refl
        go again false e = on again (leb (B.parent o) size.count) refl (λ z. false≢true (sym e ∙ eq-eqb (B.parent o) 0 z))

    module _ (places flags : List ℕ) (x y : ℕ) where
      abbrev sc : Scene
      sc = scene_in places es

      abbrev table_scene : Scene
      table_scene = scene_in places []

      module _ (o : ℕ) (one : 1 ≤ o) (le : o ≤ size.count) where
        left_is : left S sc o ≡ left B table_scene o
        unfolding left
        left_is = ap (λ (k : ℕ). cond (places_in places o).set (places_in places o).x k) (x_is o one le)

        top_is : top S sc o ≡ top B table_scene o
        unfolding top
        top_is = ap (λ (k : ℕ). cond (places_in places o).set (places_in places o).y k) (y_is o one le)

        holds_same : holds S sc x y o ≡ holds B table_scene x y o
        unfolding holds
        holds_same = λ i. spans (left_is i) (width_is o one le i) x && spans (top_is i) (height_is o one le i) y

        hit_same : hit S sc flags x y o ≡ hit_in t states places size flags x y o
        unfolding hit hit_in
        hit_same =
            (λ i. holds_same i && eqb (get_or flags (o - 1) 0) 0 && is_open S (state_of es) (count_is i) o)
            ∙ ap (λ (b : Bool). holds B table_scene x y o && eqb (get_or flags (o - 1) 0) 0 && b) (climb_same size.count o one le)

      pub object_told : object_at S sc flags x y ≡ lowest (hit_in t states places size flags x y) 1 size.count
      unfolding object_at
      object_told =
          ap (lowest (hit S sc flags x y) 1) count_is
          ∙ lowest-same (hit S sc flags x y) (hit_in t states places size flags x y) size.count 1 (λ o a b. hit_same o a (omega arith))
