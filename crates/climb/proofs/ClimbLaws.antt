-- Laws of the climb's definitions: a state looked up in a shown list, and one link of the climb.
use Rattle.std.proofs.Common.{ℕ, zero, suc, ◌-◌, ◌≤◌, ◌<◌, ◌≡◌, refl, sym, ◌∙◌, Bool, true, false, cond, ◌&&◌, List, [], ◌∷◌, Option, Some, None, arith, eq-eqb, ne_eqb, le-leb, eqb, leb}
use borrow.Author.Tests.{lt-leb}
use Rattle.std.specs.Borrow.{Bor}
use Rattle.std.specs.List.{find}
use Rattle.std.specs.Option.{MatchOption, option_map, option_map_or}
use Rattle.scene.specs.declared.Entry.{Entry}
use Rattle.climb.specs.Objects.{Objects}
use Rattle.climb.specs.Climb.{state_of, lets, is_open}

-- ---- a state looked up

state_found : (es : List Entry) (o : ℕ) → state_of es o ≡ option_map_or (λ e. e.state) (find (λ e. eqb e.object o) es) 0
unfolding state_of
state_found [] o = refl
state_found (e ∷ es) o = go (eqb e.object o) (state_found es o)
  where
    go : (t : Bool) → state_of es o ≡ option_map_or (λ (e : Entry). e.state) (find (λ e. eqb e.object o) es) 0
        → cond t e.state (state_of es o) ≡ option_map_or (λ (e : Entry). e.state) (cond t (Some e) (find (λ e. eqb e.object o) es)) 0
    go true h = refl
    go false h = h

-- the state of the first entry of o, or 0 where there is none
pub state_is : (es : List Entry) (o n : ℕ) (r : Option (Bor Entry)) → option_map (λ e. e.now) r ≡ find (λ e. eqb e.object o) es
    → MatchOption r (n ≡ 0) (λ e. n ≡ e.now.state) → n ≡ state_of es o
state_is es o n None f h = h ∙ sym (state_found es o ∙ rw (← f))
state_is es o n (Some e) f h = h ∙ sym (state_found es o ∙ rw (← f))

-- ---- one link of the climb

module _ (obs : Objects) (state : ℕ → ℕ) (links o : ℕ) where
  abbrev p : ℕ
  p = obs.parent o

  pub climb_out : links ≡ 0 → false ≡ is_open obs state links o
  unfolding is_open
  climb_out e = rw e

  climb : (k : ℕ) → (k ≡ 0 → ⊥)
      → is_open obs state k o ≡ cond (eqb p 0) true (leb p obs.count && lets (obs.flags o) (state p) && is_open obs state (k - 1) p)
  unfolding is_open
  climb zero f = absurd (f refl)
  climb (suc k) f = let e : suc k - 1 ≡ k = omega arith in rw e

  module _ (some : links ≡ 0 → ⊥) where
    pub climb_top : p ≡ 0 → true ≡ is_open obs state links o
    climb_top e = sym (climb links some ∙ rw (eq-eqb p 0 e))

    module _ (has : p ≡ 0 → ⊥) where
      pub climb_gone : obs.count < p → false ≡ is_open obs state links o
      climb_gone h = sym (climb links some ∙ rw (ne_eqb p 0 has, lt-leb p obs.count h))

      module _ (there : p ≤ obs.count) (b : Bool) (e : b ≡ lets (obs.flags o) (state p)) where
        pub climb_on : b ≡ true → is_open obs state (links - 1) p ≡ is_open obs state links o
        climb_on t = sym (climb links some ∙ rw (ne_eqb p 0 has, le-leb p obs.count there, ← e, t))

        pub climb_shut : b ≡ false → false ≡ is_open obs state links o
        climb_shut t = sym (climb links some ∙ rw (ne_eqb p 0 has, le-leb p obs.count there, ← e, t))
