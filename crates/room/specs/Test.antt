-- The whole test of a room, as the load does it: 1, 2, 3, 4, then the background and planes 1 to N, each with 5 first and then 6 to 8
-- (document 01, "Numbered refusals"). Every call that takes room bytes starts with it.
use Rattle.std.specs.Prelude.{ℕ, ◌*◌, ◌/◌, List, Bool, true, false, cond, ◌&&◌, ◌||◌, ltb, length, Result, Ok, Err}
use Rattle.room.specs.Head.{head_of}
use Rattle.room.specs.Picture.{smap_and_planes_test}
use Rattle.room.specs.declared.Lent.{Lent}
use Rattle.room.specs.declared.Room.{Room}

-- strips of a room: S = W / 8
abbrev pub strips : Room → ℕ
strips r = r.width / 8

-- the background, then planes 1 to N
unfoldable pub pictures_test : List ℕ → Room → Result (Unit {0}) ℕ
pictures_test s r = smap_and_planes_test r.planes (strips r) r.height s r.image r.image_end r.smap r.smap_end

-- what a call needs: pixels W × H, masks N × S × H, a flag byte per object, a record or session of its fixed size
unfoldable pub short : Lent → Room → Bool
short lent r =
    lent.fixed_short
    || (lent.has_surfaces && (ltb lent.pixels (r.width * r.height) || ltb lent.masks (strips r * (r.planes * r.height))))
    || (lent.has_flags && ltb lent.flags r.objects)

abbrev pub room_when_passed : Result (Unit {0}) ℕ → Room → Result Room ℕ
room_when_passed (Ok tt) r = Ok r
room_when_passed (Err n) r = Err n

-- refusal 4, then the pictures
unfoldable pub after_head : Lent → List ℕ → Result Room ℕ → Result Room ℕ
after_head lent s (Ok r) = cond (short lent r) (Err 4) (room_when_passed (pictures_test s r) r)
after_head lent s (Err n) = Err n

unfoldable pub room_test : Lent → List ℕ → Result Room ℕ
room_test lent s = after_head lent s (head_of s)

-- document 01's number for a test's answer
abbrev pub number_of : Result Room ℕ → ℕ
number_of (Ok r) = 0
number_of (Err n) = n

-- nothing is lent but the room
abbrev pub nothing : Lent
nothing = record { fixed_short = false; has_surfaces = false; pixels = 0; masks = 0; has_flags = false; flags = 0 }

-- one buffer of a fixed size, lent with n bytes
abbrev pub fixed_only : (size n : ℕ) → Lent
fixed_only size n = record { fixed_short = ltb n size; has_surfaces = false; pixels = 0; masks = 0; has_flags = false; flags = 0 }

-- a session of a fixed size, lent with n bytes, and both surfaces
abbrev pub with_surfaces : (size n pixels masks : ℕ) → Lent
with_surfaces size n pixels masks =
    record { fixed_short = ltb n size; has_surfaces = true; pixels = pixels; masks = masks; has_flags = false; flags = 0 }

-- the test that a call on a session of a fixed size makes, which is lent with both surfaces
abbrev pub surfaces_test : (size : ℕ) (s session pixels masks : List ℕ) → Result Room ℕ
surfaces_test size s session pixels masks = room_test (with_surfaces size (length session) (length pixels) (length masks)) s

-- a session of a fixed size, lent with n bytes, and a flag byte per object
abbrev pub with_flags : (size n flags : ℕ) → Lent
with_flags size n flags =
    record { fixed_short = ltb n size; has_surfaces = false; pixels = 0; masks = 0; has_flags = true; flags = flags }
