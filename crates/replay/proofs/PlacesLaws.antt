-- Laws of the table of last places: its rows, one place stored, the homes, and that an accepted draw's place can be stored. Assumes nothing.
use Rattle.std.proofs.Common.{ℕ, ◌+◌, ◌*◌, ◌<◌, ◌≤◌, ◌≡◌, refl, sym, ap, ◌∙◌, Bool, true, false, cond, List, eqb, leb, get_or, set, length, length-set, get_or-set_same, get_or-set_other, arith, le-leb, leb-true, leb-false, eqb-true}
use Rattle.std.specs.Int.{from_bool}
use borrow.Author.Tests.{lt-leb, eqb-false, not-true}
use Rattle.scene.specs.declared.Entry.{Entry}
use Rattle.scene.specs.declared.Place.{Place}
use Rattle.scene.specs.declared.Place.TheVariants.{Last, Strip}
use Rattle.scene.specs.declared.Step.{Step}
use Rattle.scene.specs.declared.Step.TheVariants.{Draw, Hide}
use Rattle.scene.specs.Painting.{Room}
use Rattle.scene.specs.Steps.{Scene, Spot, spot_of, entry_of, moves, allowed, refusal, bare}
use Rattle.replay.specs.declared.Size.{Size}
use Rattle.replay.specs.declared.Spot as code
use Rattle.replay.specs.Tables.{cell_of, verdict_of, room_of_tables, Sizes, places_length}
use Rattle.replay.specs.Places.{places_in, scene_in, IsAt, Near}
use Rattle.replay.proofs.TablesLaws.{cell_past, verdict_bounds, allowed_bounds}
use Rattle.replay.proofs.ReplayLaws.{accepted_draw}

-- ---- rows

abbrev row_of : (x y f : ℕ) → Spot
row_of x y f = record { x = x; y = y; set = eqb f 1 }

abbrev row_in : List ℕ → ℕ → Spot
row_in l o = row_of (get_or l (3 * o) 0) (get_or l (3 * o + 1) 0) (get_or l (3 * o + 2) 0)

abbrev nowhere : Spot
nowhere = record { x = 0; y = 0; set = false }

places_row : (l : List ℕ) (o : ℕ) → o ≤ 128 → places_in l o ≡ row_in l o
unfolding places_in
places_row l o h = rw (le-leb o 128 h)

places_past : (l : List ℕ) (o : ℕ) → 128 < o → places_in l o ≡ nowhere
unfolding places_in
places_past l o h = rw (lt-leb o 128 h)

-- ---- one place stored

module _ (l : List ℕ) (o a b f : ℕ) (few : o ≤ 128) (long : places_length ≤ length l) where
  abbrev l₁ : List ℕ
  l₁ = set l (3 * o) a

  abbrev l₂ : List ℕ
  l₂ = set l₁ (3 * o + 1) b

  abbrev l₃ : List ℕ
  l₃ = set l₂ (3 * o + 2) f

  len₁ : length l₁ ≡ length l
  len₁ = length-set l (3 * o) a

  len₂ : length l₂ ≡ length l
  len₂ = length-set l₁ (3 * o + 1) b ∙ len₁

  own : row_in l₃ o ≡ row_of a b f
  own =
      let x : get_or l₃ (3 * o) 0 ≡ a =
      get_or-set_other l₂ (3 * o + 2) (3 * o) f 0 (λ e. omega arith) ∙ get_or-set_other l₁ (3 * o + 1) (3 * o) b 0 (λ e. omega arith)
      ∙ get_or-set_same l (3 * o) a 0 (omega arith) in
      let y : get_or l₃ (3 * o + 1) 0 ≡ b =
      get_or-set_other l₂ (3 * o + 2) (3 * o + 1) f 0 (λ e. omega arith) ∙ get_or-set_same l₁ (3 * o + 1) b 0 (omega (arith, len₁)) in
      let s : get_or l₃ (3 * o + 2) 0 ≡ f = get_or-set_same l₂ (3 * o + 2) f 0 (omega (arith, len₂)) in
      λ i. row_of (x i) (y i) (s i)

  other : (k : ℕ) → (k ≡ 3 * o → ⊥) → (k ≡ 3 * o + 1 → ⊥) → (k ≡ 3 * o + 2 → ⊥) → get_or l₃ k 0 ≡ get_or l k 0
  other k p q r = get_or-set_other l₂ (3 * o + 2) k f 0 r ∙ get_or-set_other l₁ (3 * o + 1) k b 0 q ∙ get_or-set_other l (3 * o) k a 0 p

  others : (q : ℕ) → (q ≡ o → ⊥) → row_in l₃ q ≡ row_in l q
  others q n =
      let x = other (3 * q) (λ e. n (omega arith)) (λ e. omega arith) (λ e. omega arith) in
      let y = other (3 * q + 1) (λ e. omega arith) (λ e. n (omega arith)) (λ e. omega arith) in
      let s = other (3 * q + 2) (λ e. omega arith) (λ e. omega arith) (λ e. n (omega arith)) in
      λ i. row_of (x i) (y i) (s i)

  stored_at : (q : ℕ) → places_in l₃ q ≡ cond (eqb q o) (row_of a b f) (places_in l q)
  stored_at q = go (eqb q o) refl
    where
      stays : (q ≡ o → ⊥) → (t : Bool) → leb q 128 ≡ t → places_in l₃ q ≡ places_in l q
      stays n true e = let le = leb-true q 128 e in places_row l₃ q le ∙ others q n ∙ sym (places_row l q le)
      stays n false e = let gt = leb-false q 128 e in places_past l₃ q gt ∙ sym (places_past l q gt)

      go : (t : Bool) → eqb q o ≡ t → places_in l₃ q ≡ cond t (row_of a b f) (places_in l q)
      go true e = ap (places_in l₃) (eqb-true q o e) ∙ places_row l₃ o few ∙ own
      go false e = stays (eqb-false q o e) (leb q 128) refl

flag_back : (b : Bool) → eqb (from_bool b) 1 ≡ b
flag_back true = refl
flag_back false = refl

pub stored_place : (l : List ℕ) (o f : ℕ) (at : code.Spot) (p : Spot) → o ≤ 128 → places_length ≤ length l → f ≡ from_bool at.set → IsAt at p
    → places_in (set (set (set l (3 * o) at.x) (3 * o + 1) at.y) (3 * o + 2) f) ≡ (λ q. cond (eqb q o) p (places_in l q))
stored_place l o f at p few long e a =
    let s = ap (λ (k : ℕ). eqb k 1) e ∙ flag_back at.set ∙ a.set in
    let is : row_of at.x at.y f ≡ p = λ i. record { x = a.x i; y = a.y i; set = s i } in
    λ i q. (stored_at l o at.x at.y f few long q ∙ ap (λ (r : Spot). cond (eqb q o) r (places_in l q)) is) i

-- the table after a step
pub hide_moves : (l : List ℕ) (es : List Entry) (o : ℕ) → places_in l ≡ moves (scene_in l es) (Hide o)
unfolding moves
hide_moves l es o = λ i q. places_in l q

pub draw_moves : (l m : List ℕ) (es : List Entry) (o s : ℕ) (p : Place)
    → places_in m ≡ (λ q. cond (eqb q o) (spot_of (scene_in l es) o p) (places_in l q)) → places_in m ≡ moves (scene_in l es) (Draw o s p)
unfolding moves
draw_moves l m es o s p h = h ∙ (λ i q. cond (eqb q o) (spot_of (scene_in l es) o p) (places_in l q))

-- ---- the homes

module _ (objects v : List ℕ) (size : Size) where
  abbrev home : ℕ → Spot
  home = (bare (room_of_tables objects v size)).last

  pub home_is : (o : ℕ) (at : code.Spot) → at.x ≡ cell_of objects size.count o 1 → at.y ≡ cell_of objects size.count o 2 → at.set ≡ false
      → at.x < 4294967296 → at.y < 4294967296 → IsAt at (home o)
  unfolding bare room_of_tables
  home_is o at ex ey es fx fy = record { x = ex; y = ey; set = es; left = omega arith; upper = omega arith }

  pub home_more : (f g : ℕ → Spot) (o : ℕ) → g ≡ (λ q. cond (eqb q o) (home o) (f q)) → ((q : ℕ) → q < o → f q ≡ home q)
      → (q : ℕ) → q < o + 1 → g q ≡ home q
  home_more f g o e h q lt = ap (λ (k : ℕ → Spot). k q) e ∙ go (eqb q o) refl
    where
      go : (t : Bool) → eqb q o ≡ t → cond t (home o) (f q) ≡ home q
      go true d = ap home (sym (eqb-true q o d))
      go false d = let n = eqb-false q o d in h q (omega arith)

  home_past : size.count ≤ 128 → (q : ℕ) → 128 < q → nowhere ≡ home q
  unfolding bare room_of_tables
  home_past few q gt =
      let x = cell_past objects size.count q 1 (λ e. omega arith) (omega arith) in
      let y = cell_past objects size.count q 2 (λ e. omega arith) (omega arith) in
      λ i. record { x = x i; y = y i; set = false }

  pub home_all : size.count ≤ 128 → (l : List ℕ) → ((q : ℕ) → q < 129 → places_in l q ≡ home q) → places_in l ≡ home
  home_all few l h = λ i q. go q (leb q 128) refl i
    where
      go : (q : ℕ) (t : Bool) → leb q 128 ≡ t → places_in l q ≡ home q
      go q true e = let le = leb-true q 128 e in h q (omega arith)
      go q false e = let gt = leb-false q 128 e in places_past l q gt ∙ home_past few q gt

-- ---- an accepted step

module _ (objects verdicts : List ℕ) (size : Size) (z : Sizes size) where
  abbrev T : Room
  T = room_of_tables objects verdicts size

  -- an image that is there is of an object and a state whose numbers are small
  pub there_small : (o s : ℕ) → T.drawable o s ≡ true → (o ≤ 128) × (s ≤ 9)
  unfolding room_of_tables
  there_small o s h =
      let v = not-true (eqb (verdict_of verdicts size.count o s) 11) h in
      let b = verdict_bounds verdicts size.count o s (eqb-false (verdict_of verdicts size.count o s) 11 v) in
      (omega arith, b.1)

  strip_bounds : (sc : Scene) (o s x y : ℕ) → allowed T (entry_of sc o s (Strip x y)) ≡ true → (8 * x < 1024) × (8 * y < 200)
  unfolding entry_of spot_of
  strip_bounds sc o s x y h = allowed_bounds objects verdicts size (entry_of sc o s (Strip x y)) z h

  pub accepted_near : (n : ℕ) (sc : Scene) (st : Step) → refusal T n sc st ≡ 0 → Near st
  accepted_near n sc (Hide o) e = tt
  accepted_near n sc (Draw o s Last) e = ((there_small o s (accepted_draw T n sc o s Last e).0).0, tt)
  accepted_near n sc (Draw o s (Strip x y)) e =
      let d = accepted_draw T n sc o s (Strip x y) e in
      let b = strip_bounds sc o s x y d.1 in
      ((there_small o s d.0).0, (omega arith, omega arith))
