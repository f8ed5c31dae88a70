-- A list of calls, on states of any type A, from a start on: what it leaves, and what stood just before each step that stands. A call's number
-- is 0 where it is accepted. Lists of calls stand newest first.
use Rattle.std.specs.Prelude.{ℕ, cond, List, [], ◌∷◌, eqb}
use Rattle.scene.specs.declared.Call.{Call}
use Rattle.scene.specs.declared.Call.TheVariants.{Make, TakeBack}

-- each call gets the state as the last one left it
unfoldable pub after_all : {A : Type 0} → (after : A → Call → A) → (start : A) → List Call → A
after_all after start [] = start
after_all after start (c ∷ cs) = after (after_all after start cs) c

-- an accepted call on the state a: a step has a before it, a take-back takes the newest step away
unfoldable pub stacked : {A : Type 0} → Call → A → List A → List A
stacked (Make st) a before = a ∷ before
stacked TakeBack a [] = []
stacked TakeBack a (newest ∷ before) = before

-- what stood just before each accepted step that isn't taken back, newest first; `older` stood before the steps that stand at the start
unfoldable pub befores_from : {A : Type 0} → (number : A → Call → ℕ) → (after : A → Call → A) → (start : A) → (older : List A) → List Call → List A
befores_from number after start older [] = older
befores_from number after start older (c ∷ cs) =
    let now = after_all after start cs in
    let before = befores_from number after start older cs in
    cond (eqb (number now c) 0) (stacked c now before) before

-- from a start with no steps
abbrev pub befores : {A : Type 0} → (number : A → Call → ℕ) → (after : A → Call → A) → (start : A) → List Call → List A
befores number after start cs = befores_from number after start [] cs
