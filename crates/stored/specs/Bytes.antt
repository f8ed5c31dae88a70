-- A session in lent bytes (specs/Layout.antt): the count of steps at 0, the count of shown entries at 1, then the steps and the marks of
-- the shown entries, the oldest first. Bytes past the counts are not looked at. Assumes nothing.
use Rattle.std.specs.Prelude.{ℕ, zero, suc, ◌+◌, ◌*◌, ◌-◌, ◌≤◌, ◌<◌, eqb, leb, Bool, true, false, cond, ◌&&◌}
use Rattle.std.specs.Prelude.{List, [], ◌∷◌, get_or, set, take, length, replicate}
use Rattle.number.specs.Buffer.{over}
use Rattle.scene.specs.declared.Call.{Call}
use Rattle.scene.specs.declared.Call.TheVariants.{Make, TakeBack}
use Rattle.scene.specs.declared.Entry.{Entry}
use Rattle.scene.specs.declared.Place.TheVariants.{Last, Strip}
use Rattle.scene.specs.declared.Step.{Step}
use Rattle.scene.specs.declared.Step.TheVariants.{Draw, Hide}
use Rattle.scene.specs.Painting.{Room}
use Rattle.scene.specs.Steps.{Spot, most_steps, bare, replay}
use Rattle.scene.specs.Session.{Session}
use Rattle.stored.specs.declared.Shown.{Shown}
use Rattle.stored.specs.Layout.{session_size, steps_from, step_size, shown_from, mark_size}

-- f 0 to f (n - 1), the newest, f (n - 1), first
abbrev pub down : {A : Type 0} → (ℕ → A) → ℕ → List A
down f zero = []
down f (suc n) = f n ∷ down f n

-- ---- a step in five bytes: kind (0 hide, 1 draw at the last place, else draw at a strip position), object, state, a, b

abbrev pub step_of : ℕ → ℕ → ℕ → ℕ → ℕ → Step
step_of zero o s a b = Hide o
step_of (suc zero) o s a b = Draw o s Last
step_of (suc (suc k)) o s a b = Draw o s (Strip a b)

abbrev pub step_at : List ℕ → ℕ → Step
step_at l i =
    let at = steps_from + step_size * i in
    step_of (get_or l at 0) (get_or l (at + 1) 0) (get_or l (at + 2) 0) (get_or l (at + 3) 0) (get_or l (at + 4) 0)

abbrev pub kind_of : Step → ℕ
kind_of (Hide o) = 0
kind_of (Draw o s Last) = 1
kind_of (Draw o s (Strip a b)) = 2

abbrev pub object_of : Step → ℕ
object_of (Hide o) = o
object_of (Draw o s p) = o

abbrev pub state_of : Step → ℕ
state_of (Hide o) = 0
state_of (Draw o s p) = s

abbrev pub place_a : Step → ℕ
place_a (Hide o) = 0
place_a (Draw o s Last) = 0
place_a (Draw o s (Strip a b)) = a

abbrev pub place_b : Step → ℕ
place_b (Hide o) = 0
place_b (Draw o s Last) = 0
place_b (Draw o s (Strip a b)) = b

abbrev pub put5 : List ℕ → ℕ → ℕ → ℕ → ℕ → ℕ → ℕ → List ℕ
put5 l at k o s a b = set (set (set (set (set l at k) (at + 1) o) (at + 2) s) (at + 3) a) (at + 4) b

abbrev pub put_step : List ℕ → ℕ → Step → List ℕ
put_step l i t = put5 l (steps_from + step_size * i) (kind_of t) (object_of t) (state_of t) (place_a t) (place_b t)

-- the numbers of an accepted step fit a byte each
abbrev pub Small : Step → Type 0
Small (Hide o) = o ≤ 128
Small (Draw o s Last) = (o ≤ 128) × (s ≤ 9)
Small (Draw o s (Strip a b)) = (o ≤ 128) × (s ≤ 9) × (a ≤ 127) × (b ≤ 24)

-- ---- the shown list: of each entry its object and its state, for its place is its object's last place

pub data Mark : Type 0 where
  mark : ℕ → ℕ → Mark

-- mark j of those that stand from byte `from` on
abbrev pub mark_at : List ℕ → (from j : ℕ) → Mark
mark_at l from j = mark (get_or l (from + mark_size * j) 0) (get_or l (from + mark_size * j + 1) 0)

-- n marks of those, from mark k on
unfoldable pub marks_from : List ℕ → (from k n : ℕ) → List Mark
marks_from l from k zero = []
marks_from l from k (suc n) = mark_at l from k ∷ marks_from l from (suc k) n

abbrev pub placed : (ℕ → Spot) → Mark → Entry
placed last (mark o s) = record { object = o; state = s; x = (last o).x; y = (last o).y }

unfoldable pub all_placed : (ℕ → Spot) → List Mark → List Entry
all_placed last [] = []
all_placed last (m ∷ ms) = placed last m ∷ all_placed last ms

abbrev pub is_mark : Mark → Entry → Bool
is_mark (mark o s) e = eqb o e.object && eqb s e.state

unfoldable pub same_marks : List Mark → List Entry → Bool
same_marks [] [] = true
same_marks [] (e ∷ es) = false
same_marks (m ∷ ms) [] = false
same_marks (m ∷ ms) (e ∷ es) = is_mark m e && same_marks ms es

-- the marks of the entries, stored from mark k on of those that stand from byte `from` on; other bytes stay
unfoldable pub put_marks : List ℕ → (from k : ℕ) → List Entry → List ℕ
put_marks l from k [] = l
put_marks l from k (e ∷ es) =
    put_marks (set (set l (from + mark_size * k) e.object) (from + mark_size * k + 1) e.state) from (suc k) es

abbrev pub put_shown : List ℕ → List Entry → List ℕ
put_shown l es = set (put_marks l shown_from 0 es) 1 (length es)

-- the list that an answer holds, the oldest entry first
abbrev pub entries : Shown → List Entry
entries s = take s.n s.list

-- every entry of a list
abbrev pub All : (Entry → Type 0) → List Entry → Type 0
All P [] = Unit {0}
All P (e ∷ es) = P e × All P es

-- the marks of shown entries fit a byte each
abbrev pub SmallEntry : Entry → Type 0
SmallEntry e = (e.object ≤ 128) × (e.state ≤ 9)

-- ---- the session

-- the history, newest first
abbrev pub steps_of : List ℕ → List Step
steps_of l = down (step_at l) (get_or l 0 0)

-- the steps that a call reads: a count above the most is refused before any
unfoldable pub readable : List ℕ → List Step
readable l = cond (leb (get_or l 0 0) most_steps) (steps_of l) []

-- an empty session: no step, no entry, all zero; bytes past its size stay
unfoldable pub emptied : List ℕ → List ℕ
emptied old = over (replicate session_size 0) old

-- replayed from the bare room: the bytes hold every step since the load
unfoldable pub session_of : Room → List ℕ → Session
session_of room l =
    let base = bare room in
    record { base = base; history = steps_of l; shown = all_placed (replay room base (steps_of l)).last (marks_from l shown_from 0 (get_or l 1 0)) }

-- the history after an accepted call: its step is put after the others, or the newest is dropped, whose record's bytes stay
abbrev pub put_history : List ℕ → Call → List ℕ
put_history l (Make st) = set (put_step l (get_or l 0 0) st) 0 (get_or l 0 0 + 1)
put_history l TakeBack = set l 0 (get_or l 0 0 - 1)

-- what it asks of the bytes: room for the step, or a step to drop
abbrev pub Storable : List ℕ → Call → Type 0
Storable l (Make st) = (get_or l 0 0 < most_steps) × Small st
Storable l TakeBack = 0 < get_or l 0 0

-- the bytes after an accepted call that leaves a shown list
abbrev pub put_call : List ℕ → Call → List Entry → List ℕ
put_call l c es = put_shown (put_history l c) es
