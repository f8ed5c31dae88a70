-- Which bytes of a lent picture a stamp goes by, and what it leaves where it shows no pixel. Assumes nothing.
use Rattle.std.proofs.Common.{◌≡◌, refl, sym, ap, ◌∙◌, Bool, true, false, ◌&&◌, List, ℕ, ◌+◌, ◌*◌, ◌/◌, ◌%◌, ◌≤◌, ◌<◌, mul_comm, le-div_iff_mul-le, arith, le-leb, lt-ltb, le-ltb, ltb, length, get_or}
use mathlib.Core.Bool.{false≢true}
use mathlib.Core.Logic.{by_cases}
use native.Mathlib.Decide.{ℕ_discrete, dec_lt}
use lib.Arith.{digits_div, digits_mod}
use lib.IntN.{ℤ, pos, ◌+ℤ◌}
use lib.ListN.{get_or-eq_default}
use Rattle.grid.proofs.Upd.{upd_ext}
use Rattle.grid.proofs.Box.{cell_lt}
use Rattle.number.proofs.BoolLaws.{both}
use Rattle.actor.specs.Sizes.{buffers_fit}
use Rattle.actor.specs.Hidden.{mask_bit, hidden_at}
use Rattle.actor.specs.Corner.{covers, nth}
use Rattle.actor.specs.Stamp.{blended, stamped, stamp_number, stamp_frame}
use Rattle.actor.proofs.CornerLaws.{covers_stands}
use Rattle.actor.proofs.SizeLaws.{stamp_accepted}
use Rattle.actor.proofs.StampLaws.{cond_same}
use Rattle.actor.proofs.ActorLaws.{hidden_exactly, accepted-stamps, refused_keeps, same_length, elsewhere, opaque_hidden, clear-pixel}

-- ---- two buffers that begin with one picture: what stands behind it doesn't matter
module _ (frame masks a b : List ℕ) (w h n width height clear : ℕ) (x y : ℤ) (clip : ℕ)
    (long-a : width * height ≤ length a) (long-b : width * height ≤ length b) (same : (i : ℕ) → i < width * height → get_or a i 0 ≡ get_or b i 0) where
  pub picture-number : stamp_number (length frame) (length masks) (length a) w h n width height
      ≡ stamp_number (length frame) (length masks) (length b) w h n width height
  unfolding stamp_number buffers_fit
  picture-number = rw (le-leb (width * height) (length a) long-a, le-leb (width * height) (length b) long-b)

  cell : (i o : ℕ) → stamped masks a w h n width height clear x y clip i o ≡ stamped masks b w h n width height clear x y clip i o
  unfolding stamped
  cell i o =
      cond_same (ltb (i / w) h && (covers y height (i / w) && covers x width (i % w))) _ _ _ o refl
      (λ t. let on = both _ _ (both (ltb (i / w) h) (covers y height (i / w) && covers x width (i % w)) t).1 in
      ap (λ (v : ℕ). blended masks w h n clear clip (i % w) (i / w) v o)
      (same (nth y (i / w) * width + nth x (i % w))
      (cell_lt width height (nth x (i % w)) (nth y (i / w)) (covers_stands x width (i % w) on.1).0 (covers_stands y height (i / w) on.0).0)))

  pub picture-frame : stamp_frame frame masks a w h n width height clear x y clip ≡ stamp_frame frame masks b w h n width height clear x y clip
  picture-frame =
      by_cases (ℕ_discrete (stamp_number (length frame) (length masks) (length a) w h n width height) 0)
      (λ e. accepted-stamps frame masks a w h n width height clear x y clip e
      ∙ upd_ext _ _ frame (λ i k. cell i (get_or frame i 0))
      ∙ sym (accepted-stamps frame masks b w h n width height clear x y clip (sym picture-number ∙ e)))
      (λ e. refused_keeps frame masks a w h n width height clear x y clip e
      ∙ sym (refused_keeps frame masks b w h n width height clear x y clip (λ z. e (picture-number ∙ z))))

-- ---- where nothing shows
module _ (frame masks picture : List ℕ) (w h n width height clear : ℕ) (x y : ℤ) (clip : ℕ)
    (accepted : stamp_number (length frame) (length masks) (length picture) w h n width height ≡ 0) where
  abbrev after : List ℕ
  after = stamp_frame frame masks picture w h n width height clear x y clip

  -- past the frame's rows
  pub past : (i : ℕ) → w * h ≤ i → get_or after i 0 ≡ get_or frame i 0
  past i beyond =
      let some = (stamp_accepted (length frame) (length masks) (length picture) w h n width height accepted).some in
      let below : h ≤ i / w = (le-div_iff_mul-le some).1 (omega (arith, beyond, mul_comm w h)) in
      by_cases (dec_lt i (length frame)) (λ lt. elsewhere frame masks picture w h n width height clear x y clip i lt (rw (le-ltb (i / w) h below)))
      (λ out. get_or-eq_default after 0 (omega (arith, same_length frame masks picture w h n width height clear x y clip))
      ∙ sym (get_or-eq_default frame 0 (omega arith)))

  module _ (p q : ℕ) (in-x : p < w) (in-y : q < h) where
    abbrev i : ℕ
    i = q * w + p

    inside : i < length frame
    inside = omega (arith, cell_lt w h p q in-x in-y, (stamp_accepted (length frame) (length masks) (length picture) w h n width height accepted).room)

    -- at a pixel of the frame: no pixel of the picture stands there that is opaque and not hidden
    pub nothing-shown : ((column row : ℕ) → column < width → row < height → pos p ≡ x +ℤ pos column → pos q ≡ y +ℤ pos row
        → (get_or picture (row * width + column) 0 ≡ clear → ⊥) → ((1 ≤ clip) × (clip ≤ n) × (mask_bit masks w h clip p q ≡ 1) → ⊥) → ⊥)
        → get_or after i 0 ≡ get_or frame i 0
    nothing-shown none = on (covers y height q) (covers x width p) refl refl
      where
        hides : (column row : ℕ) (in_c : column < width) (in-r : row < height) (at_x : pos p ≡ x +ℤ pos column) (at_y : pos q ≡ y +ℤ pos row)
            → (get_or picture (row * width + column) 0 ≡ clear → ⊥) → (t : Bool) → hidden_at masks w h n clip p q ≡ t → get_or after i 0 ≡ get_or frame i 0
        hides column row in_c in-r at_x at_y opaque true is =
            opaque_hidden frame masks picture w h n width height clear x y clip column row p q in_c in-r at_x at_y in-x in-y accepted opaque
            ((hidden_exactly masks w h n clip p q).0 is)
        hides column row in_c in-r at_x at_y opaque false is =
            absurd (none column row in_c in-r at_x at_y opaque (λ behind. false≢true (sym is ∙ (hidden_exactly masks w h n clip p q).1 behind)))

        on : (a b : Bool) → covers y height q ≡ a → covers x width p ≡ b → get_or after i 0 ≡ get_or frame i 0
        on true true ey ex =
            let (in-r, at_y) = covers_stands y height q ey in
            let (in_c, at_x) = covers_stands x width p ex in
            by_cases (ℕ_discrete (get_or picture (nth y q * width + nth x p) 0) clear)
            (clear-pixel frame masks picture w h n width height clear x y clip (nth x p) (nth y q) p q in_c in-r at_x at_y in-x in-y accepted)
            (λ opaque. hides (nth x p) (nth y q) in_c in-r at_x at_y opaque (hidden_at masks w h n clip p q) refl)
        on true false ey ex =
            elsewhere frame masks picture w h n width height clear x y clip i inside (rw (digits_div q in-x, digits_mod q in-x, lt-ltb q h in-y, ey, ex))
        on false b ey ex =
            elsewhere frame masks picture w h n width height clear x y clip i inside (rw (digits_div q in-x, digits_mod q in-x, lt-ltb q h in-y, ey))
