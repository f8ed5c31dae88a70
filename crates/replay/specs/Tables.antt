-- The numbers that a caller has gathered of a room's objects, and the room that they tell (document 01, "Sessions"): a row of 8 numbers
-- for each object (id, x, y, width, height, number of images, two more), and a byte for each object and state. Assumes nothing.
-- For the proofs: no public promise rests on what this page says.
use Rattle.std.specs.Prelude.{ℕ, ◌+◌, ◌*◌, ◌≤◌, ◌≡◌, Bool, true, false, cond, not, ◌&&◌, ◌||◌, List, [], ◌∷◌, eqb, leb, get_or, length}
use Rattle.scene.specs.declared.Call.{Call}
use Rattle.scene.specs.declared.Call.TheVariants.{Make, TakeBack}
use Rattle.scene.specs.declared.Entry.{Entry}
use Rattle.scene.specs.declared.Step.{Step}
use Rattle.scene.specs.declared.Step.TheVariants.{Draw, Hide}
use Rattle.scene.specs.Painting.{Room}
use Rattle.scene.specs.Steps.{allowed}
use Rattle.stored.specs.Layout.{session_size}
use Rattle.replay.specs.declared.Size.{Size}

-- the lengths of the tables, for objects 0 to 128: of each object a row of 8 numbers, 10 bytes of verdicts, and a last place in 3 numbers
abbrev pub objects_length : ℕ
objects_length = 1032

abbrev pub verdicts_length : ℕ
verdicts_length = 1290

abbrev pub places_length : ℕ
places_length = 387

-- number k of object o's row; 0 for an object that is not there
unfoldable pub cell_of : List ℕ → ℕ → ℕ → ℕ → ℕ
cell_of objects count o k = cond (eqb o 0) 0 (cond (leb o count) (get_or objects (8 * o + k) 0) 0)

-- 11 where the object has no image of the state; else 0, or the image's own refusal, 2 or 5 to 8
unfoldable pub verdict_of : List ℕ → ℕ → ℕ → ℕ → ℕ
verdict_of verdicts count o s =
    cond (eqb o 0) 11 (cond (leb o count) (cond (eqb s 0) 11 (cond (leb s 9) (get_or verdicts (10 * o + s) 0) 11)) 11)

-- the room as the tables tell it, with nothing painted: steps and sessions ask for no pixel and no mask
unfoldable pub room_of_tables : List ℕ → List ℕ → Size → Room
room_of_tables objects verdicts size =
    record {
      strips = size.strips;
      height = size.height;
      planes = 0;
      background = λ x y. 0;
      plane = λ k s y. 0;
      home_x = λ o. cell_of objects size.count o 1;
      home_y = λ o. cell_of objects size.count o 2;
      width = λ o. cell_of objects size.count o 3;
      tall = λ o. cell_of objects size.count o 4;
      drawable = λ o s. not (eqb (verdict_of verdicts size.count o s) 11);
      fault = λ o s. verdict_of verdicts size.count o s;
      colour = λ o s j r c. 0;
      clear = λ o s j r c. false;
      bits = λ o s k j r. 0;
    }

-- the sizes that document 01 allows a room
abbrev pub Sizes : Size → Type 0
Sizes size = (size.strips ≤ 128) × (size.height ≤ 200) × (size.count ≤ 128)

-- what is asked of lent bytes and gathered numbers before a session is read by them
abbrev pub LongEnough : (session objects verdicts : List ℕ) → Size → Type 0
LongEnough session objects verdicts size =
    (session_size ≤ length session) × (objects_length ≤ length objects) × (verdicts_length ≤ length verdicts) × Sizes size

-- a step draws the object o in the state s; a step of the list does
unfoldable pub draws : Step → ℕ → ℕ → Bool
draws (Draw q t p) o s = eqb o q && eqb s t
draws (Hide q) o s = false

unfoldable pub names : List Step → ℕ → ℕ → Bool
names [] o s = false
names (st ∷ h) o s = draws st o s || names h o s

-- the steps whose images a call asks for: the history's, and the one that it makes
abbrev pub asked_by : Call → List Step → List Step
asked_by (Make st) h = st ∷ h
asked_by TakeBack h = h

-- the image's size alone gives no 12: it may stand at the room's upper left corner
abbrev pub at_corner : ℕ → Entry
at_corner o = record { object = o; state = 0; x = 0; y = 0 }

unfoldable pub size_allowed : Room → ℕ → Bool
size_allowed room o = allowed room (at_corner o)

-- The tables tell what a room is: every object's row, and the verdicts of the images that the steps draw. The image's own refusal is
-- asked only of an image whose size is allowed, for it is looked at after 12.
pub record TablesAgree (room : Room) (objects verdicts : List ℕ) (size : Size) (steps : List Step) : Type 0 where
  pub strips : room.strips ≡ size.strips
  pub height : room.height ≡ size.height
  pub home_x : (o : ℕ) → room.home_x o ≡ cell_of objects size.count o 1
  pub home_y : (o : ℕ) → room.home_y o ≡ cell_of objects size.count o 2
  pub width : (o : ℕ) → room.width o ≡ cell_of objects size.count o 3
  pub tall : (o : ℕ) → room.tall o ≡ cell_of objects size.count o 4
  pub drawable : (o s : ℕ) → names steps o s ≡ true → room.drawable o s ≡ not (eqb (verdict_of verdicts size.count o s) 11)
  pub fault : (o s : ℕ) → names steps o s ≡ true → room.drawable o s ≡ true → size_allowed room o ≡ true
      → room.fault o s ≡ verdict_of verdicts size.count o s
