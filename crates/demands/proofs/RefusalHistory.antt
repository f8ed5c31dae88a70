-- When a session isn't one that the room gives (refusal 9): a step of its history is refused where it stands, or its list isn't the history's.
use Rattle.std.proofs.Common.{◌≡◌, refl, sym, ap, ◌∙◌, subst, Bool, true, false, true≢false, List, [], ◌∷◌, ◌++◌, ◌⊎◌, inl, inr, ◌↔◌, eqb-true, eq-eqb, eqb, length}
use borrow.Author.Tests.{eqb-false}
use Rattle.number.proofs.BoolLaws.{and_left, and_right, and-true}
use Rattle.scene.specs.Painting.{Room}
use Rattle.scene.specs.declared.Entry.{Entry}
use Rattle.scene.specs.declared.Step.{Step}
use Rattle.scene.specs.Steps.{Scene, refusal, replay, replays}
use Rattle.scene.specs.Session.{Session, same_entry, same_list, right_for}
use Rattle.scene.proofs.Reading.{right-means}
use Rattle.demands.specs.RoomRefusals.{OtherSession}
use Rattle.demands.proofs.RefusalTests.{one_fails}

-- ---- a list is the same as itself

same-entry : (e : Entry) → same_entry e e ≡ true
unfolding same_entry
same-entry e = simp (eq-eqb e.object e.object refl, eq-eqb e.state e.state refl, eq-eqb e.x e.x refl, eq-eqb e.y e.y refl)

same-list : (es : List Entry) → same_list es es ≡ true
unfolding same_list
same-list [] = refl
same-list (e ∷ es) = and-true (same_entry e e) (same_list es es) (same-entry e) (same-list es)

module _ (room : Room) (base : Scene) where
  -- the step st is refused after the steps h
  abbrev Refuses : List Step → Step → Type 0
  Refuses h st = refusal room (length h) (replay room base h) st ≡ 0 → ⊥

  abbrev SomeRefused : List Step → Type 0
  SomeRefused history = (later : List Step) × (st : Step) × (earlier : List Step) × (history ≡ later ++ (st ∷ earlier)) × Refuses earlier st

  refused_there : (h : List Step) → replays room base h ≡ false → SomeRefused h
  unfolding replays
  refused_there [] e = absurd (true≢false e)
  refused_there (st ∷ h) e =
      go ((one_fails (replays room base h) (eqb (refusal room (length h) (replay room base h) st) 0)).0 e) (refused_there h)
    where
      go : (replays room base h ≡ false) ⊎ (eqb (refusal room (length h) (replay room base h) st) 0 ≡ false)
          → (replays room base h ≡ false → SomeRefused h) → SomeRefused (st ∷ h)
      go (inl w) before = let (later, s, earlier, e, f) = before w in (st ∷ later, s, earlier, ap (◌∷◌ st) e, f)
      go (inr w) before = ([], st, h, refl, eqb-false (refusal room (length h) (replay room base h) st) 0 w)

  refused_back : (later : List Step) (st : Step) (earlier : List Step) → Refuses earlier st → replays room base (later ++ (st ∷ earlier)) ≡ true → ⊥
  unfolding replays
  refused_back [] st earlier f e = f (eqb-true _ 0 (and_right (replays room base earlier) _ e))
  refused_back (s ∷ later) st earlier f e = refused_back later st earlier f (and_left (replays room base (later ++ (st ∷ earlier))) _ e)

module _ (room : Room) (ss : Session) where
  abbrev replayed : List Entry
  replayed = (replay room ss.base ss.history).shown

  there : (replays room ss.base ss.history ≡ false) ⊎ (same_list ss.shown replayed ≡ false) → OtherSession room ss
  there (inl w) = inl (refused_there room ss.base ss.history w)
  there (inr w) = inr (λ e. true≢false (sym (same-list ss.shown) ∙ ap (same_list ss.shown) e ∙ w))

  back : (q : Bool) → right_for room ss ≡ q → OtherSession room ss → q ≡ false
  back false e w = refl
  back true e (inl (later, st, earlier, is, f)) =
      absurd (refused_back room ss.base later st earlier f (subst (λ (h : List Step). replays room ss.base h ≡ true) is (right-means room ss e).0))
  back true e (inr f) = absurd (f (right-means room ss e).1)

  pub other_session : (right_for room ss ≡ false) ↔ OtherSession room ss
  unfolding right_for
  other_session = (
    λ w. there ((one_fails (replays room ss.base ss.history) (same_list ss.shown replayed)).0 w),
    back (right_for room ss) refl,
  )
