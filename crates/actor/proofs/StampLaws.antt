-- A picture clipped to the frame, as a box of the frame, is the picture stamped at its signed corner. Assumes nothing.
use Rattle.std.proofs.Common.{◌≡◌, refl, sym, ◌∙◌, Bool, true, false, ◌&&◌, cond, List, ℕ, ◌+◌, ◌-◌, ◌*◌, ◌/◌, ◌%◌, ◌≤◌, ◌<◌, min, mod-lt, arith, lt-ltb, le-ltb, ltb, get_or}
use mathlib.Core.Bool.{and_assoc, and-false, false≢true}
use mathlib.Core.Logic.{by_cases}
use native.Mathlib.Decide.{dec_lt}
use lib.IntN.{ℤ}
use Rattle.grid.specs.Grid.{upd, within, boxed, Inside}
use Rattle.number.specs.Number.{ahead, behind}
use Rattle.actor.specs.Corner.{covers, nth, InFrame}
use Rattle.actor.specs.declared.corner.Span.{Span}
use Rattle.actor.specs.Sizes.{Planes}
use Rattle.actor.specs.Stamp.{blended, stamped, stamp_box, Buffers}
use Rattle.grid.proofs.Upd.{upd_ext}
use Rattle.grid.proofs.Box.{within_yes, within-lo, within-hi, within_cases}
use Rattle.actor.proofs.CornerLaws.{covers_in, covers-lo, covers-hi, nth_is}

-- along one axis
module _ (z : ℤ) (size limit p : ℕ) where
  axis : within (ahead z) (min (size - behind z) (limit - ahead z)) p ≡ (ltb p limit && covers z size p)
  axis =
      by_cases (dec_lt p limit)
      (λ a. rw (lt-ltb p limit a)
      (by_cases (dec_lt p (ahead z)) (λ b. within-lo (ahead z) _ p b ∙ sym (covers-lo z size p b))
      (λ b. by_cases (dec_lt (p + behind z) (ahead z + size))
      (λ k. within_yes (ahead z) _ p (omega arith) (omega arith) ∙ sym (covers_in z size p (omega arith) k))
      (λ k. within-hi (ahead z) _ p (omega arith) ∙ sym (covers-hi z size p (omega arith) (omega arith))))))
      (λ a. rw (le-ltb p limit (omega arith)) (by_cases (dec_lt p (ahead z)) (within-lo (ahead z) _ p) (λ b. within-hi (ahead z) _ p (omega arith))))

pub cond_same : (b d : Bool) (u v o : ℕ) → b ≡ d → (b ≡ true → u ≡ v) → cond b u o ≡ cond d v o
cond_same true d u v o e h = rw (← e) (h refl)
cond_same false d u v o e h = rw (← e)

module _ (masks picture : List ℕ) (w h n width height clear clip : ℕ) (x y : ℤ) (across down : Span) (some : 0 < w)
    (is-across : InFrame x width w across) (is_down : InFrame y height h down)
  where
    stamp_value : (p q o : ℕ) → ahead x ≤ p → ahead y ≤ q
        → stamp_box masks picture w h n width clear clip across down (p - across.start) (q - down.start) o
        ≡ blended masks w h n clear clip p q (get_or picture (nth y q * width + nth x p) 0) o
    unfolding stamp_box
    stamp_value p q o hp hq =
        let a = is-across.start in
        let b = is_down.start in
        let e1 : across.start + (p - across.start) ≡ p = omega arith in
        let e2 : down.start + (q - down.start) ≡ q = omega arith in
        let e3 : (down.skip + (q - down.start)) * width + across.skip + (p - across.start) ≡ nth y q * width + nth x p =
        rw (nth_is y q hq, nth_is x p hp, is_down.skip, is_down.start, is-across.skip, is-across.start) (omega arith) in
        rw (e1, e2, e3)

    stamp_point : (i o : ℕ)
        → boxed w across.start down.start across.count down.count (stamp_box masks picture w h n width clear clip across down) i o
        ≡ stamped masks picture w h n width height clear x y clip i o
    unfolding boxed stamped
    stamp_point i o =
        let inw : i % w < w = mod-lt i some in
        let same : (within down.start down.count (i / w) && within across.start across.count (i % w))
        ≡ (ltb (i / w) h && (covers y height (i / w) && covers x width (i % w))) =
        rw (is_down.start, is_down.count, is-across.start, is-across.count, axis y height h (i / w), axis x width w (i % w), lt-ltb (i % w) w inw)
        (and_assoc (ltb (i / w) h) (covers y height (i / w)) (covers x width (i % w))) in
        cond_same _ _ _ _ _ same
        (λ t. within_cases down.start down.count (i / w)
        (λ a b. within_cases across.start across.count (i % w)
        (λ c d. stamp_value (i % w) (i / w) o (omega (arith, is-across.start)) (omega (arith, is_down.start)))
        (λ m. absurd (false≢true (rw (m, and-false) at t))))
        (λ m. absurd (false≢true (rw m at t))))

    pub stamp_made : (l out : List ℕ)
        → out ≡ upd (boxed w across.start down.start across.count down.count (stamp_box masks picture w h n width clear clip across down)) l
        → out ≡ upd (stamped masks picture w h n width height clear x y clip) l
    stamp_made l out made = made ∙ upd_ext _ _ l (λ i k. stamp_point i (get_or l i 0))

-- the part in the frame lies in the frame and in the picture
pub stamp_room : (frame masks picture w h n width height : ℕ) (x y : ℤ) (across down : Span)
    → Buffers frame masks picture w h n width height
    → InFrame x width w across
    → InFrame y height h down
    → (across.count ≡ 0 → ⊥)
    → (down.count ≡ 0 → ⊥)
    → Inside frame w h across.start down.start across.count down.count
    × (Inside picture width height across.skip down.skip across.count down.count × Planes masks w h n)
stamp_room frame masks picture w h n width height x y across down b is-across is_down wide high = (
  record { wide = b.planes.wide; high = omega arith; room = b.room; right = omega arith; low = omega arith },
  (record { wide = omega arith; high = omega arith; room = b.all; right = omega arith; low = omega arith }, b.planes),
)
