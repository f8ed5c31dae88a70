-- Demand 3 holds, from every accepted load on and for every list of calls: crate play's theorem, said of the bytes.
use Rattle.std.proofs.Common.{ℕ, ◌≡◌, refl, sym, ap, ◌∙◌, Bool, true, false, cond, List, [], ◌∷◌, map, eqb, arith, Ok}
use Rattle.room.specs.declared.Room as bytes
use Rattle.scene.specs.Painting.{Room}
use Rattle.scene.specs.Steps.{bare, replay}
use Rattle.scene.specs.declared.Call.{Call}
use Rattle.scene.specs.declared.Call.TheVariants.{Make, TakeBack}
use Rattle.scene.specs.Calls.{after_all, stacked, befores_from}
use Rattle.scene.specs.Session.{State, loaded, state_from, state_after, scene_of}
use Rattle.scene.proofs.Demand3 as scene
use Rattle.scene.proofs.Demand3.{stack}
use Rattle.layers.specs.Decoded.{decoded}
use Rattle.play.specs.Bytes.{Lent, test_of, number_of, played, bytes_after}
use Rattle.play.proofs.Demand3 as play
use Rattle.demands.specs.Demand3.{surfaces_in, bytes_before, Restored, LoadHolds, CallHolds, Demand3}
use Rattle.demands.proofs.Demand1.{demand1}

module _ (s : List ℕ) (r : bytes.Room) (b : Lent) (accepted : test_of s b ≡ Ok r) where
  abbrev D : Room
  D = decoded s r

  abbrev held : Lent → State
  held x = play.held s r x

  state_is : (cs : List Call) → held (bytes_after s b cs) ≡ state_after D (surfaces_in b) cs
  state_is cs = play.load_reached s r b accepted cs

  -- what stood before each step, as states
  abbrev before : List Call → List State
  before cs = scene.before D (surfaces_in b) (loaded D (surfaces_in b)) cs

  stacked-held : (c : Call) (x : Lent) (bs : List Lent) → map held (stacked c x bs) ≡ stacked c (held x) (map held bs)
  unfolding stacked
  stacked-held (Make st) x bs = refl
  stacked-held TakeBack x [] = refl
  stacked-held TakeBack x (p ∷ bs) = refl

  befores-held : (cs : List Call) → map held (bytes_before s b cs) ≡ before cs
  unfolding befores_from played state_from loaded stack
  befores-held [] = refl
  befores-held (c ∷ cs) =
      go (befores-held cs) (eqb (number_of s (bytes_after s b cs) c) 0)
      ∙ (λ i. cond (eqb ((play.load_demand3 s r b accepted cs c).0 i) 0) (stacked c (state_is cs i) (before cs)) (before cs))
    where
      go : map held (bytes_before s b cs) ≡ before cs → (t : Bool)
          → map held (cond t (stacked c (bytes_after s b cs) (bytes_before s b cs)) (bytes_before s b cs))
          ≡ cond t (stacked c (held (bytes_after s b cs)) (before cs)) (before cs)
      go e true = stacked-held c (bytes_after s b cs) (bytes_before s b cs) ∙ ap (stacked c (held (bytes_after s b cs))) e
      go e false = e

  -- a list whose states are x's and more has x's state first
  restored_of : (after : Lent) (bs : List Lent) (rest : List State) → map held bs ≡ held after ∷ rest → Restored D after bs
  restored_of after [] rest e = absurd (let z : ◌≡◌ {A = ℕ} 0 1 = cc in omega arith)
  restored_of after (p ∷ bs) rest e =
      let same : held p ≡ held after = cc in (
        sym (ap (λ (t : State). t.surfaces) same),
        sym (ap (λ (t : State). scene_of D t.session) same),
        sym (ap (λ (t : State). t.session.history) same),
      )

  refusing : (cs : List Call) (c : Call) → (number_of s (bytes_after s b cs) c ≡ 0 → ⊥) → bytes_after s b (c ∷ cs) ≡ bytes_after s b cs
  unfolding after_all played
  refusing cs c f = demand1.call_stays s (bytes_after s b cs) c f

  as_loaded : LoadHolds s r b
  unfolding after_all state_from loaded scene_of replay bare played
  as_loaded =
      let state = state_is [] in
      record {
        history = ap (λ (t : State). t.session.history) state;
        scene = ap (λ (t : State). scene_of D t.session) state;
        surfaces = ap (λ (t : State). t.surfaces) state;
      }

  as_called : (cs : List Call) (c : Call) → CallHolds s r b cs c
  unfolding loaded
  as_called cs c =
      let all = play.load_demand3 s r b accepted cs c in
      let state = all.1 in
      let claim = all.2 in
      record {
        number = all.0 ∙ claim.number;
        history = ap (λ (t : State). t.session.history) state ∙ claim.history;
        scene = ap (λ (t : State). scene_of D t.session) state ∙ claim.scene;
        surfaces = ap (λ (t : State). t.surfaces) state ∙ claim.surfaces;
        refusing = refusing cs c;
        restoring = λ e f. restored_of (bytes_after s b (c ∷ cs)) (bytes_before s b cs) _
            (befores-held cs ∙ claim.restoring e (sym all.0 ∙ f) ∙ ap (λ (t : State). t ∷ before (c ∷ cs)) (sym state));
      }

pub demand3 : Demand3
demand3 = record { load = λ s b r e. as_loaded s r b e; call = λ s b r e cs c. as_called s r b e cs c }
