-- Laws of the whole test: what holds of a room that passes it.
use Rattle.std.proofs.Common.{◌≡◌, refl, List, Bool, true, false, cond, ◌||◌, true≢false, ℕ, ◌*◌, ◌≤◌, ltb-false, ltb, Result, Ok, Err}
use mathlib.Core.Path.{subst⁻¹}
use Rattle.room.specs.Head.{head_of, Sound}
use Rattle.room.specs.Test.{pictures_test, short, room_when_passed, after_head, room_test, fixed_only, with_surfaces, with_flags, strips}
use Rattle.room.specs.declared.Lent.{Lent}
use Rattle.room.specs.declared.Room.{Room}
use Rattle.room.proofs.HeadLaws.{head_sound}

-- a room that passes is sound, nothing lent is too short, and its pictures pass
pub record Passes (lent : Lent) (s : List ℕ) (r : Room) : Type 0 where
  pub sound : Sound s r
  pub enough : short lent r ≡ false
  pub pictures : pictures_test s r ≡ Ok tt

module _ (lent : Lent) (s : List ℕ) where
  abbrev AllPass : Result Room ℕ → Type 0
  AllPass (Ok r) = Passes lent s r
  AllPass (Err n) = Unit {0}

  pictures_pass : (r : Room) → Sound s r → short lent r ≡ false → (t : Result (Unit {0}) ℕ) → pictures_test s r ≡ t → AllPass (room_when_passed t r)
  pictures_pass r sound enough (Ok tt) e = record { sound = sound; enough = enough; pictures = e }
  pictures_pass r sound enough (Err n) e = tt

  head_passes : (h : Result Room ℕ) → h ≡ head_of s → AllPass (after_head lent s h)
  unfolding after_head
  head_passes (Ok r) e = go (short lent r) refl
    where
      go : (q : Bool) → short lent r ≡ q → AllPass (cond q (Err 4) (room_when_passed (pictures_test s r) r))
      go true f = tt
      go false f = pictures_pass r (head_sound s r e) f (pictures_test s r) refl
  head_passes (Err n) e = tt

  pub test-passes : (r : Room) → Ok r ≡ room_test lent s → Passes lent s r
  unfolding room_test
  test-passes r h = subst⁻¹ AllPass h (head_passes (head_of s) refl)

-- a buffer of a fixed size that is not too short
pub fixed_long : (size n : ℕ) (r : Room) → short (fixed_only size n) r ≡ false → size ≤ n
unfolding short
fixed_long size n r h = go (ltb n size) refl h
  where
    go : (q : Bool) → ltb n size ≡ q → (q || false || false) ≡ false → size ≤ n
    go true e f = absurd (true≢false f)
    go false e f = ltb-false n size e

-- a session and surfaces that are not too short
pub surfaces-long : (size n pixels masks : ℕ) (r : Room) → short (with_surfaces size n pixels masks) r ≡ false
    → (size ≤ n) × (r.width * r.height ≤ pixels) × (strips r * (r.planes * r.height) ≤ masks)
unfolding short
surfaces-long size n pixels masks r h = go (ltb n size) (ltb pixels (r.width * r.height)) (ltb masks (strips r * (r.planes * r.height))) refl refl refl h
  where
    go : (p q t : Bool) → ltb n size ≡ p → ltb pixels (r.width * r.height) ≡ q → ltb masks (strips r * (r.planes * r.height)) ≡ t
        → (p || (q || t) || false) ≡ false → (size ≤ n) × (r.width * r.height ≤ pixels) × (strips r * (r.planes * r.height) ≤ masks)
    go true q t a b c f = absurd (true≢false f)
    go false true t a b c f = absurd (true≢false f)
    go false false true a b c f = absurd (true≢false f)
    go false false false a b c f = (ltb-false n size a, ltb-false pixels (r.width * r.height) b, ltb-false masks (strips r * (r.planes * r.height)) c)

-- a session and flags that are not too short
pub flags_long : (size n flags : ℕ) (r : Room) → short (with_flags size n flags) r ≡ false → (size ≤ n) × (r.objects ≤ flags)
unfolding short
flags_long size n flags r h = go (ltb n size) (ltb flags r.objects) refl refl h
  where
    go : (p q : Bool) → ltb n size ≡ p → ltb flags r.objects ≡ q → (p || false || q) ≡ false → (size ≤ n) × (r.objects ≤ flags)
    go true q a b f = absurd (true≢false f)
    go false true a b f = absurd (true≢false f)
    go false false a b f = (ltb-false n size a, ltb-false flags r.objects b)
