-- The point question on a room's bytes, a session's bytes and a lent flag byte per object: the room's refusals, 1 to 8 with 4, then 9, then
-- 14 (document 01, "Numbered refusals").
use Rattle.std.specs.Prelude.{ℕ, zero, suc, Bool, cond, ◌&&◌, List, ltb, length, Option, Some, None, Result, Ok, Err}
use Rattle.room.specs.Test.{room_test, with_flags}
use Rattle.room.specs.declared.Room.{Room}
use Rattle.scene.specs.Session.{right_for, scene_of}
use Rattle.stored.specs.Bytes.{session_of}
use Rattle.stored.specs.Layout.{session_size}
use Rattle.layers.specs.Decoded.{decoded}
use Rattle.point.specs.Objects.{objects_of}
use Rattle.point.specs.Point.{object_at}

-- an object's number, from 1, or 0 for none
abbrev pub found : ℕ → Result (Option ℕ) ℕ
found zero = Ok None
found (suc n) = Ok (Some (suc n))

-- the point is in the room
abbrev pub inside : Room → (x y : ℕ) → Bool
inside r x y = ltb x r.width && ltb y r.height

-- on a room that passes: 9, then 14, else the object
unfoldable pub asked : List ℕ → Room → (session flags : List ℕ) → (x y : ℕ) → Result (Option ℕ) ℕ
asked s r session flags x y =
    let room = decoded s r in
    let ss = session_of room session in
    cond (right_for room ss) (cond (inside r x y) (found (object_at (objects_of s) (scene_of room ss) flags x y)) (Err 14)) (Err 9)

abbrev pub asked_when_passed : List ℕ → (session flags : List ℕ) → (x y : ℕ) → Result Room ℕ → Result (Option ℕ) ℕ
asked_when_passed s session flags x y (Ok r) = asked s r session flags x y
asked_when_passed s session flags x y (Err n) = Err n

-- a session of its size and a flag byte per object are what 4 asks for
unfoldable pub pointed_at : (room session flags : List ℕ) → (x y : ℕ) → Result (Option ℕ) ℕ
pointed_at s session flags x y = asked_when_passed s session flags x y (room_test (with_flags session_size (length session) (length flags)) s)

-- document 01's number for each case of an answer
abbrev pub number : Result (Option ℕ) ℕ → ℕ
number (Ok (Some o)) = 0
number (Ok None) = 0
number (Err n) = n

-- and its value: the object's number, 0 for no object
abbrev pub value : Result (Option ℕ) ℕ → ℕ
value (Ok (Some o)) = o
value (Ok None) = 0
value (Err n) = 0
