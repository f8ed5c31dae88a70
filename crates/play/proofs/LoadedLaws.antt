-- What a load leaves is the room painted afresh with nothing shown, and an empty session.
use Rattle.std.proofs.Common.{◌≡◌, refl, sym, ap, ap₂, ◌∙◌, Bool, true, cond, List, [], ℕ, ◌+◌, ◌*◌, ◌/◌, ◌%◌, ◌≤◌, ◌<◌, div-lt_iff_lt-mul, mod-lt, arith, lt-ltb, le-ltb, ltb, get_or}
use mathlib.Core.Bool.{and-true}
use mathlib.Core.Logic.{by_cases}
use native.Mathlib.Nat.{sub-zero}
use native.Mathlib.Decide.{dec_lt}
use Rattle.number.specs.Buffer.{over}
use Rattle.grid.specs.Grid.{upd, boxed}
use Rattle.grid.proofs.Upd.{upd_ext}
use Rattle.grid.proofs.Box.{boxed_in, boxed_off, within-hi}
use Rattle.room.specs.Head.{Sound}
use Rattle.room.specs.Test.{strips}
use Rattle.room.specs.declared.Room as room
use Rattle.load.specs.Load.{background, mask, loaded_pixels, loaded_masks}
use Rattle.scene.specs.Painting.{Room, pixel_layout, mask_layout, rebuilt_bytes, new_byte, fresh_byte, layered}
use Rattle.scene.specs.Steps.{bare}
use Rattle.scene.specs.Session.{loaded}
use Rattle.stored.specs.Bytes.{session_of, marks_from, all_placed, emptied}
use Rattle.layers.specs.Decoded.{decoded}
use Rattle.play.specs.Calls.{state_of}

-- a box that is the whole grid
pub full_box : (w h : ℕ) (f : ℕ → ℕ → ℕ) (i o : ℕ) → 0 < w → boxed w 0 0 w h (λ x y p. f x y) i o ≡ cond (ltb i (h * w)) (f (i % w) (i / w)) o
full_box w h f i o pos =
    by_cases (dec_lt i (h * w))
    (λ lt.
    let row : i / w < h = (div-lt_iff_lt-mul pos).1 lt in
    let column : i % w < w = mod-lt i pos in
    boxed_in w 0 0 w h (λ x y p. f x y) i o (omega arith) (omega arith) (omega arith) (omega arith)
    ∙ ap₂ f (sub-zero (i % w)) (sub-zero (i / w)) ∙ rw (lt-ltb i (h * w) lt))
    (λ ge.
    let row : h ≤ i / w = not-row ge in
    boxed_off w 0 0 w h (λ x y p. f x y) i o (within-hi 0 h (i / w) (omega arith)) ∙ rw (le-ltb i (h * w) (omega arith)))
  where
    not-row : (i < h * w → ⊥) → h ≤ i / w
    not-row ge = by_cases (dec_lt (i / w) h) (λ lt. absurd (ge ((div-lt_iff_lt-mul pos).0 lt))) (λ no. omega arith)

module _ (s : List ℕ) (r : room.Room) (sound : Sound s r) where
  abbrev D : Room
  D = decoded s r

  wide : r.width ≡ 8 * strips r
  wide = omega (arith, sound.whole)

  pixels-loaded : (l : List ℕ) → loaded_pixels s r l ≡ rebuilt_bytes (pixel_layout D) [] (λ k. true) l
  unfolding loaded_pixels pixel_layout decoded rebuilt_bytes new_byte fresh_byte layered
  pixels-loaded l =
      ap (λ (w : ℕ). upd (boxed w 0 0 w r.height (λ x y o. background s r x y)) l) wide
      ∙ (upd_ext _ _ l
      (λ i lt. full_box (8 * strips r) r.height (background s r) i (get_or l i 0) (omega (arith, sound.narrowest, wide))
      ∙ ap (λ (b : Bool). cond b (background s r (i % (8 * strips r)) (i / (8 * strips r))) (get_or l i 0))
      (sym (and-true (ltb i (r.height * (8 * strips r)))))))

  masks-loaded : (l : List ℕ) → loaded_masks s r l ≡ rebuilt_bytes (mask_layout D) [] (λ k. true) l
  unfolding loaded_masks mask_layout decoded rebuilt_bytes new_byte fresh_byte layered
  masks-loaded l =
      upd_ext _ _ l
      (λ i lt. full_box (strips r) (r.planes * r.height) (λ k q. mask s r (q / r.height + 1) k (q % r.height)) i (get_or l i 0)
      (omega (arith, sound.narrowest, wide))
      ∙ ap (λ (b : Bool). cond b (mask s r (i / strips r / r.height + 1) (i % strips r) (i / strips r % r.height)) (get_or l i 0))
      (sym (and-true (ltb i (r.planes * r.height * strips r)))))

  empty-session : (l : List ℕ) → session_of D (emptied l) ≡ record { base = bare D; history = []; shown = [] }
  unfolding session_of emptied over marks_from all_placed
  empty-session l = refl

  pub loaded_is : (l px mk : List ℕ) → state_of D (emptied l) (loaded_pixels s r px) (loaded_masks s r mk) ≡ loaded D (record { pixels = px; masks = mk })
  unfolding loaded
  loaded_is l px mk =
      λ i. record {
        session = empty-session l i;
        surfaces = record { pixels = pixels-loaded px i; masks = masks-loaded mk i };
      }
