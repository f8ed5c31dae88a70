-- What scene's `called` leaves, for a draw, a hide and a take-back alike. Assumes nothing.
use Rattle.std.proofs.Common.{ℕ, ◌≡◌, refl, Bool, true, false, cond, List, [], ◌∷◌, arith, eq-eqb, ne_eqb}
use Rattle.scene.specs.declared.Call.{Call}
use Rattle.scene.specs.declared.Call.TheVariants.{Make, TakeBack}
use Rattle.scene.specs.declared.Step.{Step}
use Rattle.scene.specs.Painting.{Room, rebuilt}
use Rattle.scene.specs.Session.{State, right_for, refused, made, unmade, tried, called}
use Rattle.session.specs.Plans.{newest_touches, call_touches}

pub not-nine : ◌≡◌ {A = ℕ} 9 0 → ⊥
not-nine e = omega arith

module _ (room : Room) (b : State) where
  unmade-refused : (h : List Step) → ((unmade room h b).number ≡ 0 → ⊥) → (unmade room h b).after ≡ b
  unfolding unmade
  unmade-refused [] f = refl
  unmade-refused (st ∷ h) f = absurd (f refl)

  tried-refused : (c : Call) → ((tried room b c).number ≡ 0 → ⊥) → (tried room b c).after ≡ b
  unfolding tried
  tried-refused (Make st) f = rw (ne_eqb _ 0 f)
  tried-refused TakeBack f = unmade-refused b.session.history f

  pub called-refused : (c : Call) → ((called room b c).number ≡ 0 → ⊥) → (called room b c).after ≡ b
  unfolding called
  called-refused c = go (right_for room b.session)
    where
      go : (t : Bool) → ((cond t (tried room b c) (refused 9 b)).number ≡ 0 → ⊥) → (cond t (tried room b c) (refused 9 b)).after ≡ b
      go true f = tried-refused c f
      go false f = refl

  -- the strips of its step rebuilt with the list that it leaves
  unmade-rebuilt : (h : List Step) → (unmade room h b).number ≡ 0
      → (unmade room h b).after.surfaces ≡ rebuilt room (unmade room h b).after.session.shown (newest_touches room b.session.base h) b.surfaces
  unfolding unmade newest_touches
  unmade-rebuilt [] e = absurd (let w : ◌≡◌ {A = ℕ} 13 0 = e in omega arith)
  unmade-rebuilt (st ∷ h) e = refl

  tried-rebuilt : (c : Call) → (tried room b c).number ≡ 0
      → (tried room b c).after.surfaces ≡ rebuilt room (tried room b c).after.session.shown (call_touches room b.session c) b.surfaces
  unfolding tried made
  tried-rebuilt (Make st) e = rw (eq-eqb _ 0 e)
  tried-rebuilt TakeBack e = unmade-rebuilt b.session.history e

  pub called-rebuilt : (c : Call) → (called room b c).number ≡ 0
      → (called room b c).after.surfaces ≡ rebuilt room (called room b c).after.session.shown (call_touches room b.session c) b.surfaces
  unfolding called
  called-rebuilt c = go (right_for room b.session)
    where
      go : (t : Bool) → (cond t (tried room b c) (refused 9 b)).number ≡ 0
          → (cond t (tried room b c) (refused 9 b)).after.surfaces
          ≡ rebuilt room (cond t (tried room b c) (refused 9 b)).after.session.shown (call_touches room b.session c) b.surfaces
      go true e = tried-rebuilt c e
      go false e = absurd (not-nine e)
