-- Where a session's steps and marks stand, and how many bytes it has (docs/LAYOUTS.md, "Session"). Assumes nothing.
use Rattle.std.specs.Prelude.{ℕ}

-- all its bytes: two counts, 64 steps of 5 bytes, 64 marks of 2
abbrev pub session_size : ℕ
session_size = 450

-- the first step's first byte, behind the two counts
abbrev pub steps_from : ℕ
steps_from = 2

-- a step's bytes: kind, object, state, a, b
abbrev pub step_size : ℕ
step_size = 5

-- the first byte of the first mark of the shown list, behind the steps
abbrev pub shown_from : ℕ
shown_from = 322

-- a mark's bytes: object, state
abbrev pub mark_size : ℕ
mark_size = 2

-- the most entries of a shown list: as many as steps, for each step adds at most one
abbrev pub most_shown : ℕ
most_shown = 64
