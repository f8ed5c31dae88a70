-- The numbers of a draw and of a hide after n steps: 10, 11 and 12, then the image's.
use Rattle.std.proofs.Common.{◌≡◌, sym, ap, ◌∙◌, Bool, true, false, cond, not, ◌⊎◌, inl, inr, ◌↔◌, ℕ, ◌≤◌, ◌<◌, arith, eqb, leb}
use Rattle.scene.specs.Painting as scene
use Rattle.scene.specs.declared.Place.{Place}
use Rattle.scene.specs.declared.Step.TheVariants.{Draw, Hide}
use Rattle.scene.specs.Steps.{Scene, some, entry_of, allowed, refusal, most_steps}
use Rattle.demands.proofs.RefusalTests.{fails, after_fails, apart, holds, after_holds, cond-not, not-up_to, up_to, ◌then◌, both_ways, same, renamed}

module _ (room : scene.Room) (n : ℕ) (sc : Scene) where
  module _ (o st : ℕ) (p : Place) (small : room.fault o st ≤ 8) where
    abbrev shows : Bool
    shows = room.drawable o st

    abbrev placed : Bool
    placed = allowed room (entry_of sc o st p)

    abbrev chain : ℕ
    chain = cond (leb most_steps n) 10 (cond shows (cond placed (room.fault o st) 12) 11)

    draw_chain : refusal room n sc (Draw o st p) ≡ chain
    unfolding refusal
    draw_chain =
        ap (cond (leb most_steps n) 10) (cond-not shows (cond (not placed) 12 (room.fault o st)) 11 ∙ ap (λ (x : ℕ). cond shows x 11)
        (cond-not placed (room.fault o st) 12))

    pub draw_ten : (refusal room n sc (Draw o st p) ≡ 10) ↔ (most_steps ≤ n)
    draw_ten =
        renamed 10 draw_chain
        then holds (leb most_steps n) 10 _ (apart shows _ 11 10 (apart placed _ 12 10 (λ e. omega arith) (λ e. omega arith)) (λ e. omega arith))
        then up_to most_steps n

    -- the most steps aren't there
    few : (m : ℕ) → (10 ≡ m → ⊥) → (refusal room n sc (Draw o st p) ≡ m) ↔ ((n < most_steps) × (cond shows (cond placed (room.fault o st) 12) 11 ≡ m))
    few m other = renamed m draw_chain then after_holds (leb most_steps n) 10 _ m other then both_ways (not-up_to most_steps n) same

    pub draw_eleven : (refusal room n sc (Draw o st p) ≡ 11) ↔ ((n < most_steps) × (shows ≡ false))
    draw_eleven = few 11 (λ e. omega arith) then both_ways same (fails shows _ 11 (apart placed _ 12 11 (λ e. omega arith) (λ e. omega arith)))

    pub draw_twelve : (refusal room n sc (Draw o st p) ≡ 12) ↔ ((n < most_steps) × ((shows ≡ true) × (placed ≡ false)))
    draw_twelve =
        few 12 (λ e. omega arith)
        then both_ways same (after_fails shows _ 11 12 (λ e. omega arith) then both_ways same (fails placed (room.fault o st) 12 (λ e. omega arith)))

    pub draw_image : (m : ℕ) → m ≤ 8 → (refusal room n sc (Draw o st p) ≡ m) ↔ ((n < most_steps) × ((shows ≡ true) × ((placed ≡ true) × (room.fault o st ≡ m))))
    draw_image m le =
        few m (λ e. omega arith)
        then both_ways same (after_fails shows _ 11 m (λ e. omega arith) then both_ways same (after_fails placed (room.fault o st) 12 m (λ e. omega arith)))

    pub draw_few : (m : ℕ) → refusal room n sc (Draw o st p) ≡ m → (m ≤ 8) ⊎ ((m ≡ 10) ⊎ ((m ≡ 11) ⊎ (m ≡ 12)))
    draw_few m e = go (leb most_steps n) shows placed (sym draw_chain ∙ e)
      where
        go : (full there allow : Bool) → cond full 10 (cond there (cond allow (room.fault o st) 12) 11) ≡ m → (m ≤ 8) ⊎ ((m ≡ 10) ⊎ ((m ≡ 11) ⊎ (m ≡ 12)))
        go true there allow h = inr (inl (sym h))
        go false true true h = inl (omega arith)
        go false true false h = inr (inr (inr (sym h)))
        go false false allow h = inr (inr (inl (sym h)))

  module _ (o : ℕ) where
    abbrev there : Bool
    there = some (λ e. eqb e.object o) sc.shown

    pub hide_ten : (refusal room n sc (Hide o) ≡ 10) ↔ (most_steps ≤ n)
    unfolding refusal
    hide_ten = holds (leb most_steps n) 10 _ (apart there 0 11 10 (λ e. omega arith) (λ e. omega arith)) then up_to most_steps n

    pub hide_eleven : (refusal room n sc (Hide o) ≡ 11) ↔ ((n < most_steps) × (there ≡ false))
    unfolding refusal
    hide_eleven = after_holds (leb most_steps n) 10 _ 11 (λ e. omega arith) then both_ways (not-up_to most_steps n) (fails there 0 11 (λ e. omega arith))

    pub hide_zero : (refusal room n sc (Hide o) ≡ 0) ↔ ((n < most_steps) × (there ≡ true))
    unfolding refusal
    hide_zero = after_holds (leb most_steps n) 10 _ 0 (λ e. omega arith) then both_ways (not-up_to most_steps n) (holds there 0 11 (λ e. omega arith))

    pub hide_few : (m : ℕ) → 1 ≤ m → m ≤ 9 → refusal room n sc (Hide o) ≡ m → ⊥
    unfolding refusal
    hide_few m some le = apart (leb most_steps n) 10 _ m (λ e. omega arith) (apart there 0 11 m (λ e. omega arith) (λ e. omega arith))

    pub hide_most : refusal room n sc (Hide o) ≤ 11
    unfolding refusal
    hide_most = go (leb most_steps n) there
      where
        go : (full shown : Bool) → cond full 10 (cond shown 0 11) ≤ 11
        go true shown = omega arith
        go false true = omega arith
        go false false = omega arith
