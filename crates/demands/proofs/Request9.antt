-- Change request 9 holds: a room's transparent index is read as the request says, and the painting, the record and the stamp go by it.
use Rattle.std.proofs.Common.{ℕ, ◌+◌, ◌-◌, ◌/◌, ◌%◌, ◌≤◌, ◌≡◌, refl, sym, ap, ◌∙◌, subst, Bool, true, false, true≢false, not, List, inl, inr, ◌↔◌, arith, eqb-true, eq-eqb, eqb, length, get_or, Option, Some, None, Result, Ok, Err}
use lib.Bits.{bit_or}
use Rattle.number.specs.Buffer.{over}
use Rattle.number.proofs.BoolLaws.{both, and-true}
use Rattle.block.specs.Tag.{tag-TRNS}
use Rattle.block.specs.Tree.{find_tag}
use Rattle.room.specs.Head.{trns_in, holds_index, index_in, room_of}
use Rattle.room.specs.Test.{room_test, number_of, fixed_only}
use Rattle.room.specs.declared.Lent as room
use Rattle.room.specs.declared.Room.{Room}
use Rattle.objects.specs.Record.{record_bytes, record_test, record_after}
use Rattle.image.specs.Image.{image_height}
use Rattle.image.specs.Pixel.{image_strip, image_colour, clear_code, image_clear, image_bits}
use Rattle.scene.specs.Painting.{opaque, covers, reaches, over_pixel, over_mask}
use Rattle.scene.specs.declared.Entry.{Entry}
use Rattle.layers.specs.Decoded.{decoded}
use Rattle.layers.proofs.EveryLaws.{every_at, every_of}
use Rattle.actor.proofs.ActorLaws as actor
use Rattle.demands.specs.Refusals.{Sized}
use Rattle.demands.specs.Request9.{Index, Transparent, NoneTransparent, Paints, Request9}
use Rattle.demands.proofs.RefusalTests.{below, not-below}
use Rattle.demands.proofs.RefusalRooms as rooms

-- ---- the index

at_same : (f : Option (ℕ × ℕ)) (b z b' z' : ℕ) → f ≡ Some (b, z) → f ≡ Some (b', z') → b ≡ b'
at_same f b z b' z' e e' = ap start (sym e ∙ e')
  where
    start : Option (ℕ × ℕ) → ℕ
    start (Some (c, w)) = c
    start None = 0

at_some : (f : Option (ℕ × ℕ)) (b z : ℕ) → f ≡ Some (b, z) → f ≡ None → ⊥
at_some f b z e e' = true≢false (ap there (sym e ∙ e'))
  where
    there : Option (ℕ × ℕ) → Bool
    there (Some (c, w)) = true
    there None = false

module _ (s : List ℕ) where
  one_index : (i i' : ℕ) → Index s i → Index s i' → i ≡ i'
  one_index i i' (inl (b, z, at, some, is)) (inl (b', z', at', some', is')) =
      is ∙ ap (λ (c : ℕ). get_or s (c + 8) 0) (at_same (find_tag tag-TRNS s 8 (length s)) b z b' z' at at') ∙ sym is'
  one_index i i' (inl (b, z, at, some, is)) (inr (none, is')) = absurd (at_some (find_tag tag-TRNS s 8 (length s)) b z at none)
  one_index i i' (inr (none, is)) (inl (b, z, at, some, is')) = absurd (at_some (find_tag tag-TRNS s 8 (length s)) b z at none)
  one_index i i' (inr (none, is)) (inr (none', is')) = is ∙ sym is'

  index_is : (f : Option (ℕ × ℕ)) → find_tag tag-TRNS s 8 (length s) ≡ f → holds_index f ≡ true → Index s (index_in s f)
  index_is (Some (b, z)) at some = inl (b, z, at, (below (b + 8) z).0 some, refl)
  index_is None none some = inr (none, refl)

  sized-index : (r : Room) → Sized s r → Index s r.clear
  unfolding room_of trns_in
  sized-index r (p, (formed, needed, objects, some), is, fits) =
      subst (λ (q : Room). Index s q.clear) is (index_is (find_tag tag-TRNS s 8 (length s)) refl some)

  tested_index : (lent : room.Lent) (r : Room) → room_test lent s ≡ Ok r → Index s r.clear
  tested_index lent r e = sized-index r ((rooms.accepted lent s r).0 e).0

  recorded : (lent : List ℕ) (t : Result Room ℕ) → record_test s lent ≡ t → number_of t ≡ 0 → Index s (get_or (record_after t lent) 8 0)
  unfolding over record_bytes
  recorded lent (Ok r) e none = tested_index _ r e
  recorded lent (Err n) e none =
      let size = fixed_only 16 (length lent) in
      absurd (omega (arith, (rooms.number_is size s n (subst (rooms.Verdict size s) e (rooms.verdict size s))).0, none))

-- ---- the painting

module _ (s : List ℕ) (r : Room) (o st : ℕ) where
  clear-exactly : (j q c : ℕ) → ((decoded s r).clear o st j q c ≡ true) ↔ Transparent s r r.clear o st j q c
  unfolding decoded image_clear
  clear-exactly j q c = (
    λ e. let is = both (clear_code (image_strip r.planes s o st j)) (eqb (image_colour r.planes s o st j q c) r.clear) e in
        (is.0, eqb-true _ _ is.1),
    λ (code, value). and-true _ _ code (eq-eqb _ _ value),
  )

  not-clear : (t : Bool) → (t ≡ true → ⊥) → t ≡ false
  not-clear true none = absurd (none refl)
  not-clear false none = refl

  not-true : (t : Bool) → not t ≡ true → t ≡ true → ⊥
  not-true true e e' = true≢false (sym e)
  not-true false e e' = true≢false (sym e')

  opaque-exactly : (j : ℕ) → (opaque (decoded s r) o st j ≡ true) ↔ NoneTransparent s r r.clear o st j
  unfolding opaque decoded
  opaque-exactly j = (
    λ e q c high wide is. not-true ((decoded s r).clear o st j q c) (every_at _ 8 (every_at _ (image_height s o) e q high) c wide) ((clear-exactly j q c).1 is),
    λ none. every_of _ (image_height s o)
        (λ q high. every_of _ 8 (λ c wide. ap not (not-clear ((decoded s r).clear o st j q c) (λ e. none q c high wide ((clear-exactly j q c).0 e))))),
  )

module _ (s : List ℕ) (r : Room) (e : Entry) where
  abbrev o : ℕ
  o = e.object

  abbrev st : ℕ
  st = e.state

  colour_is : (j q c : ℕ) → (decoded s r).colour o st j q c ≡ image_colour r.planes s o st j q c
  unfolding decoded
  colour_is j q c = refl

  bits_are : (p j q : ℕ) → (decoded s r).bits o st p j q ≡ image_bits r.planes s o st (p + 1) j q
  unfolding decoded
  bits_are p j q = refl

  pixel : (x y below : ℕ) → covers (decoded s r) e (x / 8) ≡ true → reaches (decoded s r) e y ≡ true
      → let j = x / 8 - e.x / 8 in let q = y - e.y in
      (Transparent s r r.clear o st j q (x % 8) → over_pixel (decoded s r) x y e below ≡ below)
      × ((Transparent s r r.clear o st j q (x % 8) → ⊥) → over_pixel (decoded s r) x y e below ≡ image_colour r.planes s o st j q (x % 8))
  unfolding over_pixel
  pixel x y below across down =
      let j = x / 8 - e.x / 8 in
      let q = y - e.y in
      let here = (decoded s r).clear o st j q (x % 8) in (
        λ is. rw (across, down, (clear-exactly s r o st j q (x % 8)).1 is),
        λ is-not. rw (across, down, not-clear s r o st here (λ is. is-not ((clear-exactly s r o st j q (x % 8)).0 is))) (colour_is j q (x % 8)),
      )

  mask : (p k y below : ℕ) → covers (decoded s r) e k ≡ true → reaches (decoded s r) e y ≡ true
      → let j = k - e.x / 8 in let bits = image_bits r.planes s o st (p + 1) j (y - e.y) in
      (NoneTransparent s r r.clear o st j → over_mask (decoded s r) p k y e below ≡ bits)
      × ((NoneTransparent s r r.clear o st j → ⊥) → over_mask (decoded s r) p k y e below ≡ bit_or below bits)
  unfolding over_mask
  mask p k y below across down =
      let j = k - e.x / 8 in
      let here = opaque (decoded s r) o st j in (
        λ none. rw (across, down, (opaque-exactly s r o st j).1 none) (bits_are p j (y - e.y)),
        λ some. rw (across, down, not-clear s r o st here (λ is. some ((opaque-exactly s r o st j).0 is))) (ap (bit_or below) (bits_are p j (y - e.y))),
      )

-- ---- the request

lacks : (s : List ℕ) (b z : ℕ) → find_tag tag-TRNS s 8 (length s) ≡ Some (b, z) → z ≤ b + 8 → holds_index (trns_in s) ≡ false
unfolding trns_in
lacks s b z at none = rw at ((not-below (b + 8) z).1 none)

pub request9 : Request9
request9 =
    record {
      one_index = one_index;
      index_read = λ s b r e. tested_index s _ r e;
      index_recorded = λ s lent none. recorded s lent (record_test s lent) refl none;
      paints = λ s b r e i is entry.
          subst (λ (k : ℕ). Paints s r k entry) (one_index s r.clear i (tested_index s _ r e) is)
          (record { pixel = pixel s r entry; mask = mask s r entry });
      stamp_leaves = λ frame masks picture w h n width height clear x y clip accepted column row p q inside-x inside-y at_x at_y in-x in-y is.
          actor.clear-pixel frame masks picture w h n width height clear x y clip column row p q inside-x inside-y at_x at_y in-x in-y accepted is;
      empty = λ lent s formed b z at none. (rooms.two lent s).1 (formed, inr (inr (lacks s b z at none)));
    }
