-- The entries of a list that an accepted call leaves can be painted.
use Rattle.std.proofs.Common.{◌≡◌, refl, sym, subst, Bool, true, false, cond, not, List, [], ◌∷◌, ◌++◌, ℕ, zero, suc, ◌*◌, ◌-◌, ◌≤◌, ◌<◌, arith, eqb-true, eqb, leb, length, get_or}
use borrow.Author.Tests.{eqb-false}
use Rattle.room.specs.declared.Room as room
use Rattle.scene.specs.Painting.{Room}
use Rattle.scene.specs.Steps.{Scene, allowed, applied, adds, removes, without, entry_of, refusal, replay, replays, most_steps}
use Rattle.scene.specs.declared.Call.{Call}
use Rattle.scene.specs.declared.Call.TheVariants.{Make, TakeBack}
use Rattle.scene.specs.declared.Entry.{Entry}
use Rattle.scene.specs.declared.Step.{Step}
use Rattle.scene.specs.declared.Step.TheVariants.{Draw, Hide}
use Rattle.stored.specs.declared.Shown.{Shown}
use Rattle.stored.specs.Bytes.{All, down, step_at, steps_of, entries}
use Rattle.replay.specs.Replay.{plan_of, base_of}
use Rattle.session.specs.Plans.{planned}
use Rattle.stored.proofs.Lists.{all_append, all_without}
use Rattle.replay.proofs.Lists.{append-nil}
use Rattle.replay.proofs.GroundLaws as base
use Rattle.replay.proofs.GroundLaws.{Ground, session_base}
use Rattle.replay.proofs.ReplayLaws.{accepted_draw, replays_older, right-shown}
use Rattle.session.proofs.PlanLaws.{accepted-plan, accepted_back}
use Rattle.layers.specs.Decoded.{decoded, entry_at, entries_of}
use Rattle.layers.specs.Ready.{Paintable, Listed}
use Rattle.verdict.proofs.VerdictLaws.{fault-passed}

module _ (room : Room) where
  abbrev pub Fine : Entry → Type 0
  Fine e = base.Fine room e

  after-12 : (a : Bool) (x k : ℕ) → (x ≡ 0 → ⊥) → cond (not a) x k ≡ 0 → k ≡ 0
  after-12 true x k f e = e
  after-12 false x k f e = absurd (f e)

  after-10 : (a : Bool) (x k : ℕ) → (x ≡ 0 → ⊥) → cond a x k ≡ 0 → k ≡ 0
  after-10 true x k f e = absurd (f e)
  after-10 false x k f e = e

  accepted_fine : (n : ℕ) (sc : Scene) (o s : ℕ) (p : _) → refusal room n sc (Draw o s p) ≡ 0 → room.fault o s ≡ 0
  unfolding refusal
  accepted_fine n sc o s p e =
      after-12 (allowed room (entry_of sc o s p)) 12 _ (λ q. omega arith)
      (after-12 (room.drawable o s) 11 _ (λ q. omega arith) (after-10 (leb most_steps n) 10 _ (λ q. omega arith) e))

  applied_fine : (n : ℕ) (sc : Scene) (st : Step) → refusal room n sc st ≡ 0 → All Fine sc.shown → All Fine (applied room sc st).shown
  unfolding applied adds entry_of
  applied_fine n sc (Draw o s p) e a =
      let d = accepted_draw room n sc o s p e in
      all_append Fine (without (removes room sc (Draw o s p)) sc.shown) (entry_of sc o s p)
      (all_without Fine Fine (removes room sc (Draw o s p)) sc.shown (λ f q b. b) a) (fine d.0 d.1 (accepted_fine n sc o s p e))
    where
      fine : room.drawable o s ≡ true → allowed room (entry_of sc o s p) ≡ true → room.fault o s ≡ 0 → Fine (entry_of sc o s p)
      fine x y z = (x, y, z)
  applied_fine n sc (Hide o) e a =
      rw (append-nil (without (removes room sc (Hide o)) sc.shown))
      (all_without Fine Fine (removes room sc (Hide o)) sc.shown (λ f q b. b) a)

  all_fine : (g : Scene) → Ground room g → (h : List Step) → replays room g h ≡ true → All Fine (replay room g h).shown
  unfolding replay
  all_fine g G [] e = G.fine
  all_fine g G (st ∷ h) e =
      let a = replays_older room g st h e in
      applied_fine (length h) (replay room g h) st a.1 (all_fine g G h a.0)

  -- so can those of the list that an accepted call leaves
  pub planned_fine : (l : List ℕ) (c : Call) (a : Shown) → plan_of a ≡ planned room l c → a.refusal ≡ 0 → All Fine (entries a)
  planned_fine l (Make st) a q y =
      let p = accepted-plan room l st a q y in
      let all = all_fine (base_of room l) (session_base room l) (steps_of l) (right-shown room l p.0).0 in
      subst (All Fine) (sym p.2) (applied_fine (length (steps_of l)) (replay room (base_of room l) (steps_of l)) st p.1 all)
  planned_fine l TakeBack a q y =
      let p = accepted_back room l a q y in
      let g = base_of room l in
      let all = subst (λ (h : List Step). replays room g h ≡ true) p.1 (right-shown room l p.0).0 in
      let n = get_or l 0 0 - 1 in
      subst (All Fine) (sym p.2) (all_fine g (session_base room l) (down (step_at l) n) (replays_older room g (step_at l n) (down (step_at l) n) all).0)

-- ---- entries that can be painted, by their numbers

all-last : (P : Entry → Type 0) (es : List Entry) (e : Entry) → All P (es ++ (e ∷ [])) → All P es × P e
all-last P [] e a = (tt, a.0)
all-last P (f ∷ es) e a = let b = all-last P es e a.1 in ((a.0, b.0), b.1)

all_at : (P : Entry → Type 0) (flat : List ℕ) (n : ℕ) → All P (entries_of flat n) → (i : ℕ) → i < n → P (entry_at flat i)
unfolding entries_of
all_at P flat zero a i lt = absurd (omega arith)
all_at P flat (suc n) a i lt = go (eqb i n) refl (λ h. all_at P flat n both.0 i h)
  where
    both : All P (entries_of flat n) × P (entry_at flat n)
    both = all-last P (entries_of flat n) (entry_at flat n) a

    go : (t : Bool) → eqb i n ≡ t → (i < n → P (entry_at flat i)) → P (entry_at flat i)
    go true e rest = subst (λ (k : ℕ). P (entry_at flat k)) (sym (eqb-true i n e)) both.1
    go false e rest = rest (omega (arith, eqb-false i n e))

module _ (s : List ℕ) (r : room.Room) where
  paintable : (e : Entry) → Fine (decoded s r) e → Paintable s r e
  unfolding decoded
  paintable e f = record { can_draw = f.0; in_room = f.1; no-fault = fault-passed r.planes s e.object e.state f.2 }

  pub listed : (flat : List ℕ) (n : ℕ) (es : List Entry) → 4 * n ≤ length flat → entries_of flat n ≡ es → All (Fine (decoded s r)) es → Listed s r flat n
  listed flat n es long same fine =
      record {
        long = long;
        each = λ i lt. paintable (entry_at flat i)
            (all_at (Fine (decoded s r)) flat n (subst (λ (x : List Entry). All (Fine (decoded s r)) x) (sym same) fine) i
            lt);
      }
