-- Laws of a tick.
use Rattle.std.proofs.Common.{◌≡◌, refl, sym, ap, ◌∙◌, Bool, true, false, ◌&&◌, cond, List, ℕ, ◌+◌, ◌-◌, ◌≤◌, arith, leb-true, ltb-true, ltb-false, eq-eqb, ne_eqb, ltb, leb, eqb, length, get_or, drop, length-drop, get_or-drop}
use mathlib.Core.Logic.{by_cases}
use native.Mathlib.Decide.{ℕ_discrete}
use Rattle.number.proofs.BoolLaws.{both}
use Rattle.limbs.specs.declared.Limb.{Limb}
use Rattle.limbs.specs.Limb.{flag, limbs_right, limb_right}
use Rattle.limbs.specs.Tick.{command_right, stream, with_stopped, with_picture, with_place, obeyed, moved_on, ticked_limb, tick_number}
use Rattle.limbs.proofs.LimbLaws.{RightIn, right_in, right_from}

-- a byte leaves its limb's window and place
pub record SameWindow (x y : Limb) : Type 0 where
  pub start : x.start ≡ y.start
  pub len : x.len ≡ y.len
  pub place : x.place ≡ y.place

choice : (t : Bool) (x y z : Limb) → SameWindow x z → SameWindow y z → SameWindow (cond t x y) z
choice true x y z p q = p
choice false x y z p q = q

pub obeyed_window : (b : ℕ) (x : Limb) → SameWindow (obeyed b x) x
unfolding obeyed
obeyed_window b x =
    let same : SameWindow x x = record { start = refl; len = refl; place = refl } in
    choice (eqb b 0x79) (with_stopped 1 x) _ x (record { start = refl; len = refl; place = refl })
    (choice (eqb b 0x7A) (with_stopped 0 x) _ x (record { start = refl; len = refl; place = refl })
    (choice (leb 0x71 b && leb b 0x7C) x (with_picture b x) x same (record { start = refl; len = refl; place = refl })))

pub tick_idle : (c : List ℕ) (x : Limb) → x.active ≡ 0 → x ≡ ticked_limb c x
unfolding ticked_limb
tick_idle c x h = rw (eq-eqb _ _ h)

pub tick_active : (s : List ℕ) (from : ℕ) (x y z : Limb)
    → (x.active ≡ 0 → ⊥)
    → y ≡ obeyed (get_or s (from + x.place) 0) x
    → z ≡ moved_on y
    → z ≡ ticked_limb (drop from s) x
unfolding ticked_limb
tick_active s from x y z h a b = rw (ne_eqb _ _ h, get_or-drop from s x.place 0) (b ∙ ap moved_on a)

-- ---- a tick leaves a limb that is right right
module _ (n : ℕ) where
  moved_right : (x : Limb) → RightIn n x → RightIn n (moved_on x)
  unfolding moved_on
  moved_right x h = go (ltb (x.place + 1) (x.start + x.len)) refl (flag x.noloop)
    where
      go : (t : Bool) → ltb (x.place + 1) (x.start + x.len) ≡ t → (k : Bool) → RightIn n
          (cond t (with_place (x.place + 1) x) (cond k x (with_place x.start x)))
      go true e k = let lt = ltb-true (x.place + 1) (x.start + x.len) e in record
          { some = h.some; few = h.few; inside = h.inside; from = omega arith; to = lt }
      go false e true = h
      go false e false = record { some = h.some; few = h.few; inside = h.inside; from = omega arith; to = omega arith }

  obeyed-right : (b : ℕ) (x : Limb) → RightIn n x → RightIn n (obeyed b x)
  obeyed-right b x h =
      let w = obeyed_window b x in
      record { some = omega arith; few = omega arith; inside = omega arith; from = omega arith; to = omega arith }

  -- a tick of an active limb
  pub ticked_active : (c : List ℕ) (x : Limb) → (x.active ≡ 0 → ⊥) → limb_right n x ≡ true → RightIn n (ticked_limb c x)
  unfolding ticked_limb
  ticked_active c x a h = rw (ne_eqb _ _ a) (moved_right (obeyed (get_or c x.place 0) x) (obeyed-right (get_or c x.place 0) x (right_in n x a h)))

  pub ticked_right : (c : List ℕ) (x : Limb) → limb_right n x ≡ true → limb_right n (ticked_limb c x) ≡ true
  ticked_right c x h =
      by_cases (ℕ_discrete x.active 0) (λ e. ap (limb_right n) (sym (tick_idle c x e)) ∙ h)
      (λ e. right_from n (ticked_limb c x) (ticked_active c x e h))

pub stream_length : (s : List ℕ) (v : ℕ) → length (stream s v) ≡ length s - (v - 6)
stream_length s v = length-drop (v - 6) s

-- a command offset that is right
pub command_in : (s : List ℕ) (v : ℕ) → command_right s v ≡ true → (6 ≤ v) × (v - 6 ≤ length s)
command_in s v h = let b = both (leb 6 v) (leb (v - 6) (length s)) h in (leb-true _ _ b.0, leb-true _ _ b.1)

-- what an accepted tick has
pub record Ticks (s l : List ℕ) (v : ℕ) : Type 0 where
  pub whole : 256 ≤ length l
  pub low : 6 ≤ v
  pub high : v - 6 ≤ length s
  pub right : limbs_right (length s - (v - 6)) l ≡ true

pub tick_accepted : (s l : List ℕ) (v : ℕ) → tick_number s l v ≡ 0 → Ticks s l v
unfolding tick_number
tick_accepted s l v ok = go (ltb (length l) 256) refl (command_right s v) refl (limbs_right (length (stream s v)) l) refl ok
  where
    go : (a : Bool) → ltb (length l) 256 ≡ a → (b : Bool) → command_right s v ≡ b → (c : Bool) → limbs_right (length (stream s v)) l ≡ c → ◌≡◌ {A = ℕ}
        (cond a 4 (cond (b && c) 0 15)) 0 → Ticks s l v
    go true p b q c r h = absurd (omega arith)
    go false p true q true r h =
        record {
          whole = ltb-false _ _ p;
          low = (command_in s v q).0;
          high = (command_in s v q).1;
          right = rw (length-drop (v - 6) s) at r;
        }
    go false p true q false r h = absurd (omega arith)
    go false p false q true r h = absurd (omega arith)
    go false p false q false r h = absurd (omega arith)
