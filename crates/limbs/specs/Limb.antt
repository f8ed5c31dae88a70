-- The 16 limbs of a costume in lent bytes (document 01, "Actors, points, limbs"). Limb i has the 16 bytes from 16 i: active, stopped, no-loop,
-- has a picture (each 0 for no, else yes), picture, length, two bytes that are not used, start and place as u32 little-endian.
-- Start and place are indexes into the command stream. A byte past the end of a list counts as 0.
use Rattle.std.specs.Prelude.{Bool, true, ◌&&◌, ◌||◌, not, cond, List, [], ◌∷◌, ℕ, zero, suc, ◌+◌, ◌*◌, length, get_or, ltb, leb, eqb, Option, Some, None, Result, Ok, Err}
use Rattle.std.proofs.lemmas.List.Edits.{sets}
use Rattle.number.specs.Number.{le32, le32_bytes}
use Rattle.limbs.specs.declared.Limb.{Limb}

-- a byte that says yes
abbrev pub flag : ℕ → Bool
flag b = not (eqb b 0)

-- limb i
unfoldable pub limb_at : List ℕ → ℕ → Limb
limb_at l i =
    record {
      active = get_or l (16 * i) 0;
      stopped = get_or l (16 * i + 1) 0;
      noloop = get_or l (16 * i + 2) 0;
      shows = get_or l (16 * i + 3) 0;
      picture = get_or l (16 * i + 4) 0;
      len = get_or l (16 * i + 5) 0;
      start = le32 l (16 * i + 8);
      place = le32 l (16 * i + 12);
    }

-- the bytes of a limb before the two that are not used
abbrev pub head_bytes : Limb → List ℕ
head_bytes x = x.active ∷ x.stopped ∷ x.noloop ∷ x.shows ∷ x.picture ∷ x.len ∷ []

-- the bytes with limb i replaced: every byte that is not one of its 14 stays. Start and place are below 2^32 in any payload of a block, whose size
-- is a u32.
unfoldable pub put_limb : List ℕ → ℕ → Limb → List ℕ
put_limb l i x = sets (sets (sets l (16 * i) (head_bytes x)) (16 * i + 8) (le32_bytes x.start)) (16 * i + 12) (le32_bytes x.place)

-- the bytes with each limb i below n replaced by f i of it
unfoldable pub each_limb : (ℕ → Limb → Limb) → ℕ → List ℕ → List ℕ
each_limb f zero l = l
each_limb f (suc n) l = put_limb (each_limb f n l) n (f n (limb_at l n))

-- a test holds of every number below n
unfoldable pub all : ℕ → (ℕ → Bool) → Bool
all zero t = true
all (suc n) t = all n t && t n

-- a limb is idle
abbrev pub idle : Limb → Bool
idle x = not (flag x.active)

-- a lent limb is right as far as it tells without the stream: idle, or its length is 1 to 128 and its place in its window
unfoldable pub place_right : Limb → Bool
place_right x = idle x || (leb 1 x.len && leb x.len 128 && leb x.start x.place && ltb x.place (x.start + x.len))

-- a lent limb is right for a stream of n bytes: its window, if it is active, lies in the stream too
unfoldable pub limb_right : ℕ → Limb → Bool
limb_right n x = place_right x && (idle x || leb (x.start + x.len) n)

-- all 16 lent limbs are right, without the stream and with it
unfoldable pub places_right : List ℕ → Bool
places_right l = all 16 (λ i. place_right (limb_at l i))

unfoldable pub limbs_right : ℕ → List ℕ → Bool
limbs_right n l = all 16 (λ i. limb_right n (limb_at l i))

-- a limb draws if it is active, not stopped, with a picture
unfoldable pub draws : Limb → Result (Option ℕ) ℕ
draws x = cond (flag x.active && not (flag x.stopped) && flag x.shows) (Ok (Some x.picture)) (Ok None)

-- the number of the question about limb i: 4 where the 16 limbs are not lent whole, then 15 where there is no such limb or one of the 16 is wrong.
-- No stream is lent to the question, so the windows' ends are not tested.
unfoldable pub draws_number : List ℕ → ℕ → ℕ
draws_number l i = cond (ltb (length l) 256) 4 (cond (leb i 15 && places_right l) 0 15)

-- its answer
unfoldable pub drawn_of : List ℕ → ℕ → Result (Option ℕ) ℕ
drawn_of l i = cond (eqb (draws_number l i) 0) (draws (limb_at l i)) (Err (draws_number l i))

-- document 01's number for each case of an answer
abbrev pub number : Result (Option ℕ) ℕ → ℕ
number (Err n) = n
number (Ok None) = 0
number (Ok (Some p)) = 0

-- and its value: 256 and the picture where the limb draws, else 0
abbrev pub value : Result (Option ℕ) ℕ → ℕ
value (Err n) = 0
value (Ok None) = 0
value (Ok (Some p)) = 256 + p
