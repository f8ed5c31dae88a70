-- Demand 2's sentence on actors, and what document 01 ("Actors, points, limbs") says of clip levels and of the stamp, as theorems over the
-- definitions that the calls `hidden` and `stamp` are proved equal to. Assumes nothing.
use Rattle.std.proofs.Common.{◌≡◌, refl, sym, ap, ◌∙◌, Bool, true, false, ◌&&◌, cond, ◌⊎◌, inl, inr, ◌↔◌, List, ℕ, ◌+◌, ◌*◌, ◌/◌, ◌%◌, ◌≤◌, ◌<◌, mod-lt, arith, leb-true, ltb-true, le-leb, lt-ltb, eqb-true, eq-eqb, ne_eqb, leb, ltb, eqb, length, get_or}
use mathlib.Core.Bool.{and-false}
use mathlib.Core.Logic.{by_cases}
use native.Mathlib.Decide.{ℕ_discrete}
use borrow.Author.Tests.{lt-leb}
use lib.Arith.{digits_div, digits_mod}
use lib.IntN.{ℤ, pos, ◌+ℤ◌}
use Rattle.grid.specs.Grid.{upd}
use Rattle.grid.proofs.Upd.{length-upd, get_or-upd, upd_ext}
use Rattle.grid.proofs.Box.{cell_lt}
use Rattle.actor.specs.Hidden.{mask_place, mask_bit, hidden_at, number, hides, answered}
use Rattle.actor.specs.Corner.{covers, nth}
use Rattle.actor.specs.Stamp.{blended, stamped, stamp_number, stamp_frame}
use Rattle.number.proofs.BoolLaws.{both}
use Rattle.actor.proofs.SizeLaws.{stamp_accepted}
use Rattle.actor.proofs.CornerLaws.{stands_covers, stands_nth}

-- ---- which pixels a clip level hides
module _ (masks : List ℕ) (w h n clip x y : ℕ) where
  -- hidden exactly when the clip level names a plane of the room and that plane's bit is set there
  pub hidden_exactly : (hidden_at masks w h n clip x y ≡ true) ↔ ((1 ≤ clip) × (clip ≤ n) × (mask_bit masks w h clip x y ≡ 1))
  unfolding hidden_at
  hidden_exactly = (there, back)
    where
      there : hidden_at masks w h n clip x y ≡ true → (1 ≤ clip) × (clip ≤ n) × (mask_bit masks w h clip x y ≡ 1)
      there e =
          let a = both (leb 1 clip) (leb clip n && eqb (mask_bit masks w h clip x y) 1) e in
          let b = both (leb clip n) (eqb (mask_bit masks w h clip x y) 1) a.1 in
          (leb-true _ _ a.0, leb-true _ _ b.0, eqb-true _ _ b.1)

      back : (1 ≤ clip) × (clip ≤ n) × (mask_bit masks w h clip x y ≡ 1) → hidden_at masks w h n clip x y ≡ true
      back e = rw (le-leb 1 clip e.0, le-leb clip n e.1, eq-eqb _ 1 e.2)

  -- clip 0 or above n hides nothing
  pub no-plane : (clip ≡ 0) ⊎ (n < clip) → hidden_at masks w h n clip x y ≡ false
  unfolding hidden_at
  no-plane (inl e) = rw (lt-leb 1 clip (omega arith))
  no-plane (inr e) = rw (lt-leb clip n e, and-false)

-- two mask buffers agree on plane k
abbrev pub SamePlane : (w h k : ℕ) → List ℕ → List ℕ → Type 0
SamePlane w h k a b = (s y : ℕ) → s < w / 8 → y < h → get_or a (mask_place w h k s y) 0 ≡ get_or b (mask_place w h k s y) 0

-- hiding asks the plane of the clip level and no other: masks that agree on it hide the same pixels
pub one-plane : (w h n clip x y : ℕ) (a b : List ℕ) → w % 8 ≡ 0 → x < w → y < h → SamePlane w h clip a b
    → hidden_at a w h n clip x y ≡ hidden_at b w h n clip x y
unfolding hidden_at mask_bit
one-plane w h n clip x y a b whole hx hy same = rw (same (x / 8) y (omega arith) hy)

-- ---- the numbers of the question's answers
pub number-answered : (k : ℕ) (b : Bool) → number (answered k b) ≡ k
unfolding answered
number-answered k b = by_cases (ℕ_discrete k 0) (λ e. rw (eq-eqb k 0 e) (sym e)) (λ e. rw (ne_eqb k 0 e))

pub hides-answered : (b : Bool) → hides (answered 0 b) ≡ b
unfolding answered
hides-answered b = refl

-- ---- the stamp
module _ (frame masks picture : List ℕ) (w h n width height clear : ℕ) (x y : ℤ) (clip : ℕ) where
  abbrev refusal : ℕ
  refusal = stamp_number (length frame) (length masks) (length picture) w h n width height

  abbrev after : List ℕ
  after = stamp_frame frame masks picture w h n width height clear x y clip

  -- a refused stamp changes nothing
  pub refused_keeps : (refusal ≡ 0 → ⊥) → after ≡ frame
  unfolding stamp_frame
  refused_keeps e = rw (ne_eqb refusal 0 e)

  pub accepted-stamps : refusal ≡ 0 → after ≡ upd (stamped masks picture w h n width height clear x y clip) frame
  unfolding stamp_frame
  accepted-stamps e = rw (eq-eqb refusal 0 e)

  pub same_length : length after ≡ length frame
  same_length = by_cases (ℕ_discrete refusal 0) (λ e. ap length (accepted-stamps e) ∙ length-upd _ frame) (λ e. ap length (refused_keeps e))

  -- a byte of the frame where no pixel of the picture stands, or past the frame, stays
  pub elsewhere : (i : ℕ) → i < length frame → (ltb (i / w) h && (covers y height (i / w) && covers x width (i % w))) ≡ false
      → get_or after i 0 ≡ get_or frame i 0
  unfolding stamped
  elsewhere i hi off =
      by_cases (ℕ_discrete refusal 0)
      (λ e. ap (λ (l : List ℕ). get_or l i 0) (accepted-stamps e) ∙ get_or-upd (stamped masks picture w h n width height clear x y clip) frame i hi ∙ still)
      (λ e. ap (λ (l : List ℕ). get_or l i 0) (refused_keeps e))
    where
      still : stamped masks picture w h n width height clear x y clip i (get_or frame i 0) ≡ get_or frame i 0
      still = rw off

  -- the picture's pixel at a column and a row, whose place (x + column, y + row) is (p, q) of the frame
  module _ (column row p q : ℕ) (inside-x : column < width) (inside-y : row < height) (at_x : pos p ≡ x +ℤ pos column) (at_y : pos q ≡ y +ℤ pos row)
      (in-x : p < w) (in-y : q < h) (accepted : refusal ≡ 0) where
    abbrev colour : ℕ
    colour = get_or picture (row * width + column) 0

    abbrev old : ℕ
    old = get_or frame (q * w + p) 0

    abbrev new : ℕ
    new = get_or after (q * w + p) 0

    one-pixel : new ≡ blended masks w h n clear clip p q colour old
    unfolding stamped
    one-pixel =
        let room = (stamp_accepted (length frame) (length masks) (length picture) w h n width height accepted).room in
        ap (λ (l : List ℕ). get_or l (q * w + p) 0) (accepted-stamps accepted)
        ∙ get_or-upd (stamped masks picture w h n width height clear x y clip) frame (q * w + p) (omega (arith, cell_lt w h p q in-x in-y))
        ∙ rw (
          digits_div q in-x,
          digits_mod q in-x,
          lt-ltb q h in-y,
          stands_covers y height row q inside-y at_y,
          stands_covers x width column p inside-x at_x,
          stands_nth y row q at_y,
          stands_nth x column p at_x,
        )

    -- an opaque pixel inside the room is written exactly when it is not hidden
    pub opaque-pixel : (colour ≡ clear → ⊥) → new ≡ cond (hidden_at masks w h n clip p q) old colour
    unfolding blended
    opaque-pixel e = one-pixel ∙ rw (ne_eqb colour clear e)

    -- demand 2's words: hidden where the clip level names a plane of the room and that plane's bit is set there, and shown where not
    pub opaque_hidden : (colour ≡ clear → ⊥) → (1 ≤ clip) × (clip ≤ n) × (mask_bit masks w h clip p q ≡ 1) → new ≡ old
    opaque_hidden e is = opaque-pixel e ∙ rw ((hidden_exactly masks w h n clip p q).1 is)

    pub opaque-shown : (colour ≡ clear → ⊥) → ((1 ≤ clip) × (clip ≤ n) × (mask_bit masks w h clip p q ≡ 1) → ⊥) → new ≡ colour
    opaque-shown e is-not = opaque-pixel e ∙ shown (hidden_at masks w h n clip p q) refl
      where
        shown : (t : Bool) → hidden_at masks w h n clip p q ≡ t → cond t old colour ≡ colour
        shown true is = absurd (is-not ((hidden_exactly masks w h n clip p q).0 is))
        shown false is = refl

    -- a clear pixel is not written
    pub clear-pixel : colour ≡ clear → new ≡ old
    unfolding blended
    clear-pixel e = one-pixel ∙ rw (eq-eqb colour clear e)

-- masks of one length that agree on the plane of the clip level leave the same frame
module _ (frame a b picture : List ℕ) (w h n width height clear : ℕ) (x y : ℤ) (clip : ℕ) (long : length a ≡ length b) (same : SamePlane w h clip a b) where
  pub one-plane-frame : stamp_frame frame a picture w h n width height clear x y clip ≡ stamp_frame frame b picture w h n width height clear x y clip
  unfolding blended stamped
  one-plane-frame =
      by_cases (ℕ_discrete (stamp_number (length frame) (length a) (length picture) w h n width height) 0)
      (λ e. accepted-stamps frame a picture w h n width height clear x y clip e
      ∙ upd_ext _ _ frame (λ i k. cell e i (get_or frame i 0))
      ∙ sym (accepted-stamps frame b picture w h n width height clear x y clip (number_same ∙ e)))
      (λ e. refused_keeps frame a picture w h n width height clear x y clip e
      ∙ sym (refused_keeps frame b picture w h n width height clear x y clip (λ z. e (sym number_same ∙ z))))
    where
      number_same : stamp_number (length frame) (length b) (length picture) w h n width height
          ≡ stamp_number (length frame) (length a) (length picture) w h n width height
      number_same = rw long

      within_rows : (i o : ℕ) (t : Bool) (on : Bool) (v : ℕ) → w % 8 ≡ 0 → 0 < w → ltb (i / w) h ≡ t
          → cond (t && on) (blended a w h n clear clip (i % w) (i / w) v o) o ≡ cond (t && on) (blended b w h n clear clip (i % w) (i / w) v o) o
      within_rows i o true on v whole some e = rw (one-plane w h n clip (i % w) (i / w) a b whole (mod-lt i some) (ltb-true _ _ e) same)
      within_rows i o false on v whole some e = refl

      cell : stamp_number (length frame) (length a) (length picture) w h n width height ≡ 0 → (i o : ℕ)
          → stamped a picture w h n width height clear x y clip i o ≡ stamped b picture w h n width height clear x y clip i o
      cell e i o =
          let r = stamp_accepted (length frame) (length a) (length picture) w h n width height e in
          within_rows i o (ltb (i / w) h) (covers y height (i / w) && covers x width (i % w)) (get_or picture (nth y (i / w) * width + nth x (i % w)) 0)
          r.planes.whole r.some refl
