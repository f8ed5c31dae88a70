-- Laws of painting from place to place of a strip: paintings go on from one another, up to the whole strip.
use Rattle.std.proofs.Common.{◌≡◌, sym, ap, ap₂, ◌∙◌, Bool, true, false, true≢false, List, ◌++◌, append-nil, ℕ, zero, suc, ◌+◌, ◌-◌, ◌≤◌, ◌<◌, arith, length, take, set, replicate, take-suc-set, Ok, Err}
use Rattle.bits.specs.declared.Cursor.{Cursor}
use Rattle.bits.specs.Bits.{rest, Held}
use Rattle.bits.specs.Reader.{Hands, One}
use Rattle.bits.proofs.BitLaws.{got_tail}
use Rattle.strip.specs.declared.State.{State}
use Rattle.strip.specs.Strip.{Strip, refused, values, prepend, decode}
use Rattle.strip.specs.Place.{op_length, second_bit, Whole, run_ahead, ahead, Gives, Stepped, Leads, kept_by}
use Rattle.strip.proofs.StripLaws.{prepend-prepend, decode-pending}
use Rattle.strip.proofs.PlaceLaws.{gives_op, gives_kept}
use Rattle.decode.specs.Paint.{Painted, Paints, Advances, Turned}

module _ (second : Bool) (w total : ℕ) (s : List ℕ) where
  pub paints : (st to : State) (out out' : List ℕ) → Gives second w total s st to → take to.i out' ≡ take st.i out ++ replicate (to.i - st.i)
      to.colour
      → Paints second w total s st out to out'
  paints st to out out' g e =
      record {
        on = λ x p.
            p
            ∙ ap (prepend (take st.i out)) g
            ∙ prepend-prepend (take st.i out) (replicate (to.i - st.i) to.colour) (ahead second w total s to)
            ∙ ap (λ (l : List ℕ). prepend l (ahead second w total s to)) (sym e);
      }

  pub paints-on : (a b c : State) (p q r : List ℕ) → Paints second w total s a p b q → Paints second w total s b q c r → Paints second w total s a p c r
  paints-on a b c p q r f g = record { on = λ x h. g.on x (f.on x h) }

module _ (second : Bool) (w : ℕ) where
  pub advances_kept : (n k : ℕ) (st : State) (next : Cursor) (out out' : List ℕ) → Hands k 0 st.cur next → k ≤ n
      → take (st.i + k) out' ≡ take st.i out ++ replicate k st.colour → Advances second w n st out (kept_by k next st) out'
  advances_kept n k st next out out' zeros le e =
      let b : k ≡ st.i + k - st.i = omega arith in
      record {
        forward = omega arith;
        few = omega arith;
        held = zeros.held;
        paints = λ s total room.
            paints second w total s st (kept_by k next st) out out' (gives_kept second w total s st k next zeros (omega arith))
            (e ∙ ap (λ (j : ℕ). take st.i out ++ replicate j st.colour) b);
      }

  pub advances_op : (st to : State) (out : List ℕ) → Leads second w st to → ((s : List ℕ) → One (rest s st.cur))
      → ((s : List ℕ) → run_ahead second (rest s st.cur) ≡ false) → st.i < length out → Advances second w 1 st out to (set out st.i to.colour)
  advances_op st to out o one no_run room =
      let on = o.on in
      let b : 1 ≡ to.i - st.i = omega arith in
      let suc-i : to.i ≡ suc st.i = omega arith in
      record {
        forward = omega arith;
        few = omega arith;
        held = o.held;
        paints = λ s total more.
            paints second w total s st to out (set out st.i to.colour)
            (gives_op second w total s st to 0 (o.leads s (one s) (no_run s)) (omega arith) (omega arith))
            (ap (λ (j : ℕ). take j (set out st.i to.colour)) suc-i
            ∙ take-suc-set out st.i to.colour room
            ∙ ap (λ (j : ℕ). take st.i out ++ replicate j to.colour) b);
      }

  pub advances_on : (m n k : ℕ) (a b c : State) (p q r : List ℕ) → m + n ≤ k → Advances second w m a p b q → Advances second w n b q c r → Advances second w k a
      p c r
  advances_on m n k a b c p q r le f g =
      record {
        forward = omega (arith, f.forward, g.forward);
        few = omega (arith, f.few, g.few);
        held = λ s held. g.held s (f.held s held);
        paints = λ s total room. paints-on second w total s a b c p q r (f.paints s total (omega arith)) (g.paints s total (omega (arith, f.few)));
      }

-- ---- what a group and a turn need

-- no operation but a run takes more than ten bits
pub whole_in_ten : (second : Bool) (w : ℕ) (c : Cursor) → w ≤ 8 → 10 ≤ c.bits → Whole second w c
whole_in_ten second w c h ten = record { two = omega arith; all = λ s v l e. by (second_bit v) second }
  where
    by : (more second : Bool) → op_length second w more ≤ c.bits
    by false second = omega arith
    by true true = omega arith
    by true false = omega arith

-- keeps that end at a run are some, where none stands ahead of them
pub kept-some : (second : Bool) (s : List ℕ) (c next : Cursor) (k : ℕ) → Hands k 0 c next → run_ahead second (rest s c) ≡ false
    → run_ahead second (rest s next) ≡ true → 0 < k
kept-some second s c next zero zeros e f = absurd (true≢false (sym f ∙ sym (ap (run_ahead second) (got_tail (zeros.front s))) ∙ e))
kept-some second s c next (suc k) zeros e f = omega arith

-- the place `st` is the place `from`, with more bits held
module _ (second : Bool) (w total : ℕ) (s : List ℕ) (from st : State) (ei : st.i ≡ from.i) (ec : st.colour ≡ from.colour) (es : st.step ≡ from.step)
    (er : rest s st.cur ≡ rest s from.cur) where
  same_ahead : ahead second w total s from ≡ ahead second w total s st
  same_ahead = λ i. decode second w (total - sym ei i) 0 (sym ec i) (sym es i) (sym er i)

  same-painted : (x : Strip) (out : List ℕ) → Painted second w total s x out from → Painted second w total s x out st
  same-painted x out p = p ∙ ap₂ (λ (j : ℕ) (y : Strip). prepend (take j out) y) (sym ei) same_ahead

  pub turned_many : (n : ℕ) (to : State) (out out' : List ℕ) → Advances second w n st out to out' → st.i < to.i → st.i + n ≤ total → Held s st.cur
      → Turned second w total s from out out' (Ok to)
  turned_many n to out out' f some room held = (
    omega arith,
    omega (arith, f.few),
    f.held s held,
    record { on = λ x p. (f.paints s total room).on x (same-painted x out p) },
  )

  pub turned_one : (to : State) (out out' : List ℕ) → Stepped second w total s st (Ok to)
      → take (st.i + (to.i - st.i)) out' ≡ take st.i out ++ replicate (to.i - st.i) to.colour → Turned second w total s from out out' (Ok to)
  turned_one to out out' h e =
      let more = h.0 in
      let b : to.i ≡ st.i + (to.i - st.i) = omega (arith, more) in (
        omega (arith, more),
        h.1,
        h.2,
        record { on = λ x p. (paints second w total s st to out out' h.3 (ap (λ (j : ℕ). take j out') b ∙ e)).on x (same-painted x out p) },
      )

  pub turned_no : (n : ℕ) → Stepped second w total s st (Err n) → ahead second w total s from ≡ refused n
  turned_no n h = same_ahead ∙ h

-- ---- the painting of a whole strip

module _ (second : Bool) (w total : ℕ) where
  -- pixel 0 is the first colour
  pub paint_start : (c : ℕ) (l : List Bool) (out : List ℕ) → 1 ≤ total → 0 < length out
      → decode second w total 1 c 1 l ≡ prepend (take 1 (set out 0 c)) (decode second w (total - 1) 0 c 1 l)
  paint_start c l out h some =
      let e : total ≡ 1 + (total - 1) = omega arith in
      ap (λ (n : ℕ). decode second w n 1 c 1 l) e
      ∙ decode-pending second w 1 (total - 1) c 1 l
      ∙ ap (λ (p : List ℕ). prepend p (decode second w (total - 1) 0 c 1 l)) (sym (take-suc-set out 0 c some))

  module _ (s : List ℕ) (x : Strip) (out : List ℕ) (st : State) (painted : Painted second w total s x out st) where
    pub paint_end : st.i ≡ total → x ≡ values (take total out)
    unfolding decode
    paint_end e =
        let z : total - st.i ≡ 0 = omega arith in
        painted
        ∙ ap (λ (n : ℕ). prepend (take st.i out) (decode second w n 0 st.colour st.step (rest s st.cur))) z
        ∙ ap values (append-nil (take st.i out))
        ∙ ap (λ (n : ℕ). values (take n out)) e

    pub paint_no : (n : ℕ) → ahead second w total s st ≡ refused n → x ≡ refused n
    paint_no n e = painted ∙ ap (prepend (take st.i out)) e
