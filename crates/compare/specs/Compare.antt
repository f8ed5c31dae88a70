-- Two rooms compared strip by strip (change request 1): "the answer is a list by strip, left to right: for each strip whose pixels or whose rows in any
-- plane differ, the strip number, how many pixels differ and which planes differ." Only what the rooms decode to is asked. a and b are the rooms' bytes,
-- ra and rb their sizes, and both have the same width and height.
use Rattle.std.specs.Prelude.{ℕ, zero, suc, ◌+◌, ◌*◌, ◌/◌, ◌%◌, ◌^◌, max, Bool, cond, not, ◌&&◌, ◌||◌, List, [], ◌∷◌, ◌++◌, eqb, leb, length, Result, Ok, Err}
use Rattle.number.specs.Number.{le16_bytes}
use Rattle.number.specs.Buffer.{over}
use Rattle.room.specs.Test.{strips, room_test, nothing}
use Rattle.room.specs.declared.Room.{Room}
use Rattle.load.specs.Load.{background, mask}

-- ---- one strip

-- at how many of the first n places two rows of numbers differ
unfoldable pub differing : (f g : ℕ → ℕ) → (n : ℕ) → ℕ
differing f g zero = 0
differing f g (suc n) = differing f g n + cond (eqb (f n) (g n)) 0 1

-- pixel j of strip k, counted by rows
abbrev pub strip_pixel : List ℕ → Room → (k j : ℕ) → ℕ
strip_pixel s r k j = background s r (8 * k + j % 8) (j / 8)

-- row y of strip k of plane p: "an undeclared plane reading as zero"
unfoldable pub declared : List ℕ → Room → (p k y : ℕ) → ℕ
declared s r p k y = cond (leb p r.planes) (mask s r p k y) 0

-- two rooms that passed their tests
pub record Rooms : Type 0 where
  pub a : List ℕ
  pub ra : Room
  pub b : List ℕ
  pub rb : Room

abbrev pub rooms : List ℕ → Room → List ℕ → Room → Rooms
rooms a ra b rb = record { a = a; ra = ra; b = b; rb = rb }

-- "how many pixels differ"
unfoldable pub pixels_differing : Rooms → (k : ℕ) → ℕ
pixels_differing m k = differing (strip_pixel m.a m.ra k) (strip_pixel m.b m.rb k) (8 * m.ra.height)

-- whether plane p differs there
unfoldable pub plane_differs : Rooms → (p k : ℕ) → Bool
plane_differs m p k = not (eqb (differing (declared m.a m.ra p k) (declared m.b m.rb p k) m.ra.height) 0)

-- "which planes differ", of planes 1 to n: bit p − 1 for plane p
unfoldable pub planes_differing : Rooms → (k n : ℕ) → ℕ
planes_differing m k zero = 0
planes_differing m k (suc n) = planes_differing m k n + cond (plane_differs m (suc n) k) (2 ^ n) 0

-- "Two planes are compared up to the larger N"
abbrev pub most : Rooms → ℕ
most m = max m.ra.planes m.rb.planes

-- ---- the list

-- a place of it
pub record Difference : Type 0 where
  pub strip : ℕ
  pub pixels : ℕ
  pub planes : ℕ

abbrev pub difference_at : Rooms → (k : ℕ) → Difference
difference_at m k = record { strip = k; pixels = pixels_differing m k; planes = planes_differing m k (most m) }

-- the strip differs
abbrev pub is_different : Difference → Bool
is_different d = not (eqb d.pixels 0) || not (eqb d.planes 0)

-- what a strip adds to the list
abbrev pub next : Difference → List Difference
next d = cond (is_different d) (d ∷ []) []

-- of strips 0 to n − 1 those that differ, left to right; f gives each strip's place
unfoldable pub listed_to : (f : ℕ → Difference) → (n : ℕ) → List Difference
listed_to f zero = []
listed_to f (suc n) = listed_to f n ++ next (f n)

abbrev pub differences : Rooms → List Difference
differences m = listed_to (difference_at m) (strips m.ra)

-- ---- the call

-- a place in 8 bytes (docs/LAYOUTS.md)
abbrev pub place_bytes : Difference → List ℕ
place_bytes d = le16_bytes d.strip ++ (le16_bytes d.pixels ++ (d.planes ∷ 0 ∷ 0 ∷ 0 ∷ []))

unfoldable pub list_bytes : List Difference → List ℕ
list_bytes [] = []
list_bytes (d ∷ ds) = place_bytes d ++ list_bytes ds

pub data Outcome : Type 0 where
  no : ℕ → Outcome
  ok : List Difference → Outcome

-- "then 16 when W or H differs, then 4 when the lent list has fewer places than strips that differ"; a list of `size` bytes has size / 8 places
unfoldable pub outcome_of : Rooms → (size : ℕ) → Outcome
outcome_of m size =
    cond (eqb m.ra.width m.rb.width && eqb m.ra.height m.rb.height)
    (cond (leb (length (differences m)) (size / 8)) (ok (differences m)) (no 4))
    (no 16)

-- "Refusals: room A's first, then room B's"
abbrev pub outcome_by_b : (a : List ℕ) → Room → (b : List ℕ) → (size : ℕ) → Result Room ℕ → Outcome
outcome_by_b a ra b size (Ok rb) = outcome_of (rooms a ra b rb) size
outcome_by_b a ra b size (Err n) = no n

abbrev pub outcome_by_a : (a b : List ℕ) → (size : ℕ) → Result Room ℕ → Outcome
outcome_by_a a b size (Ok ra) = outcome_by_b a ra b size (room_test nothing b)
outcome_by_a a b size (Err n) = no n

unfoldable pub compared_of : (a b : List ℕ) → (size : ℕ) → Outcome
compared_of a b size = outcome_by_a a b size (room_test nothing a)

-- the answer, and the lent list afterwards
abbrev pub answer_of : Outcome → Result ℕ ℕ
answer_of (no n) = Err n
answer_of (ok ds) = Ok (length ds)

abbrev pub list_after : Outcome → List ℕ → List ℕ
list_after (no n) list = list
list_after (ok ds) list = over (list_bytes ds) list

-- document 01's number for each case of an answer, and its value: how many places were filled
abbrev pub number : Result ℕ ℕ → ℕ
number (Err n) = n
number (Ok count) = 0

abbrev pub value : Result ℕ ℕ → ℕ
value (Err n) = 0
value (Ok count) = count
