-- A tick of the 16 limbs (document 01, "Actors, points, limbs").
use Rattle.std.specs.Prelude.{Bool, ◌&&◌, cond, List, ℕ, ◌+◌, ◌-◌, length, get_or, drop, ltb, leb, eqb}
use Rattle.limbs.specs.declared.Limb.{Limb}
use Rattle.limbs.specs.Limb.{flag, each_limb, limbs_right}

-- a stored command offset v means payload byte v - 6, and the stream runs to the payload's end; below 6 and past the end are wrong
abbrev pub command_right : List ℕ → ℕ → Bool
command_right s v = leb 6 v && leb (v - 6) (length s)

abbrev pub stream : List ℕ → ℕ → List ℕ
stream s v = drop (v - 6) s

-- the limb with its stopped byte, its picture or its place changed
abbrev pub with_stopped : ℕ → Limb → Limb
with_stopped b x =
    record {
      active = x.active;
      stopped = b;
      noloop = x.noloop;
      shows = x.shows;
      picture = x.picture;
      len = x.len;
      start = x.start;
      place = x.place;
    }

abbrev pub with_picture : ℕ → Limb → Limb
with_picture b x =
    record {
      active = x.active;
      stopped = x.stopped;
      noloop = x.noloop;
      shows = 1;
      picture = b;
      len = x.len;
      start = x.start;
      place = x.place;
    }

abbrev pub with_place : ℕ → Limb → Limb
with_place p x =
    record {
      active = x.active;
      stopped = x.stopped;
      noloop = x.noloop;
      shows = x.shows;
      picture = x.picture;
      len = x.len;
      start = x.start;
      place = p;
    }

-- what a byte does to its limb: 79 stops, 7A un-stops, others of 71 to 7C do nothing, else it is the picture
unfoldable pub obeyed : ℕ → Limb → Limb
obeyed b x =
    cond (eqb b 0x79) (with_stopped 1 x)
    (cond (eqb b 0x7A) (with_stopped 0 x)
    (cond (leb 0x71 b && leb b 0x7C) x (with_picture b x)))

-- the place moves on: looping, or staying at the last byte with no-loop
unfoldable pub moved_on : Limb → Limb
moved_on x = cond (ltb (x.place + 1) (x.start + x.len)) (with_place (x.place + 1) x) (cond (flag x.noloop) x (with_place x.start x))

-- a tick of a limb: an idle one stays; an active one reads its byte of the stream c, and then its place moves on
unfoldable pub ticked_limb : List ℕ → Limb → Limb
ticked_limb c x = cond (flag x.active) (moved_on (obeyed (get_or c x.place 0) x)) x

-- the number of a tick: 4 where the 16 limbs are not lent whole, then 15
unfoldable pub tick_number : List ℕ → List ℕ → ℕ → ℕ
tick_number s l v = cond (ltb (length l) 256) 4 (cond (command_right s v && limbs_right (length (stream s v)) l) 0 15)

-- the lent bytes after a tick: as they were where it is refused
unfoldable pub tick_bytes : List ℕ → List ℕ → ℕ → List ℕ
tick_bytes s l v = cond (eqb (tick_number s l v) 0) (each_limb (λ i. ticked_limb (stream s v)) 16 l) l
