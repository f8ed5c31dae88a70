-- Change request 7, in the customer's words: "A scene has up to 32 actors … Hand over a list of actor records (id, signed room y of the feet, signed place of
-- the picture, size, clip, where its picture starts in one lent pixel buffer) and paint back to front: smaller room y first, lower id first at equal y. The
-- records are a lent list that is put in that order in place. The frame afterwards equals the single stamps made one by one in that order. Two records with
-- one id and one y keep the order they came in."
--
-- Said of what the contracts of the calls promise (crate kildegrom): `number_in`, `cast_list` and `cast_frame` of kg_cast, `stamp_number` and `stamp_frame` of
-- kg_stamp. When kg_cast is refused: page Refusals; that a refused call leaves list and frame: page Demand1.
use Rattle.std.specs.Prelude.{ℕ, ◌+◌, ◌*◌, ◌≤◌, ◌<◌, ◌≡◌, List, [], ◌∷◌, ◌⊎◌, ℤ, pos, ◌+ℤ◌, length, get_or, drop, ◌<ℤ◌}
use Rattle.actor.specs.Stamp.{stamp_number, stamp_frame}
use Rattle.cast.specs.declared.Actor.{Actor}
use Rattle.cast.specs.Sort.{Perm, those}
use Rattle.cast.specs.Call.{number_in, cast_list, cast_frame}
use Rattle.demands.specs.Behind.{Behind}

-- ---- a call of kg_cast

-- what is lent to it, with the room's width, height and planes and the transparent index
pub record Lent : Type 0 where
  pub list : List Actor
  pub frame : List ℕ
  pub masks : List ℕ
  pub pictures : List ℕ
  pub w : ℕ
  pub h : ℕ
  pub n : ℕ
  pub clear : ℕ

-- its answer, and the list and the frame afterwards
abbrev pub number : Lent → ℕ
number c = number_in c.list c.frame c.masks c.pictures c.w c.h c.n

abbrev pub list_after : Lent → List Actor
list_after c = cast_list (number c) c.list

abbrev pub frame_after : Lent → List ℕ
frame_after c = cast_frame (number c) c.masks c.pictures c.w c.h c.n c.clear c.list c.frame

-- ---- the single stamps

-- kg_stamp of the actor a on a frame, with a slice lent for its picture: the answer, and the frame afterwards
abbrev pub stamp_answer : Lent → Actor → (frame picture : List ℕ) → ℕ
stamp_answer c a frame picture = stamp_number (length frame) (length c.masks) (length picture) c.w c.h c.n a.width a.height

abbrev pub stamp_after : Lent → Actor → (frame picture : List ℕ) → List ℕ
stamp_after c a frame picture =
    stamp_frame frame c.masks picture c.w c.h c.n a.width a.height c.clear a.left a.top a.clip

-- a slice begins with the actor's picture: the width × height bytes that the pixel buffer has from `start` on
abbrev pub Begins : Lent → Actor → List ℕ → Type 0
Begins c a picture =
    (a.width * a.height ≤ length picture) × ((i : ℕ) → i < a.width * a.height → get_or picture i 0 ≡ get_or c.pictures (a.start + i) 0)

-- the actors of a list are stamped one by one, from the frame `before` to the frame `after`. Each stamp is accepted, and may be lent any slice that begins with
-- the picture, as the pixel buffer from `start` on does
pub data OneByOne (c : Lent) : List Actor → (before after : List ℕ) → Type 0 where
  nobody : {frame : List ℕ} → OneByOne c [] frame frame
  one_more : {a : Actor} {others : List Actor} {before next after : List ℕ}
      → Begins c a (drop a.start c.pictures)
      → ((picture : List ℕ) → Begins c a picture → (stamp_answer c a before picture ≡ 0) × (stamp_after c a before picture ≡ next))
      → OneByOne c others next after → OneByOne c (a ∷ others) before after

-- ---- the order

-- "smaller room y first, lower id first at equal y", of any two places of a list; `none` is what `get_or` gives past the end, where no place is
abbrev pub InOrder : List Actor → Type 0
InOrder l = (i j : ℕ) (none : Actor) → i < j → j < length l
    → ((get_or l i none).y <ℤ (get_or l j none).y) ⊎ (((get_or l i none).y ≡ (get_or l j none).y) × ((get_or l i none).id ≤ (get_or l j none).id))

-- ---- what is seen

-- the actor a shows the colour v at (p, q) of the room: the pixel of its picture at some column and row stands there and is v, not the transparent index, and
-- the plane that the actor's own clip level names doesn't hide it
abbrev pub Shows : Lent → Actor → (p q v : ℕ) → Type 0
Shows c a p q v =
    (column : ℕ) × (row : ℕ) × (column < a.width) × (row < a.height) × (pos p ≡ a.left +ℤ pos column) × (pos q ≡ a.top +ℤ pos row)
    × (get_or c.pictures (a.start + (row * a.width + column)) 0 ≡ v) × (v ≡ c.clear → ⊥)
    × (Behind c.masks c.w c.h c.n a.clip p q → ⊥)

pub record Request7 : Type 0 where
  -- "The frame afterwards equals the single stamps made one by one in that order": of the list as an accepted call leaves it
  pub stamps : (c : Lent) → number c ≡ 0 → OneByOne c (list_after c) c.frame (frame_after c)
  -- "The records are a lent list that is put in that order in place": the same records, whatever the answer
  pub same_records : (c : Lent) → Perm (list_after c) c.list
  -- "smaller room y first, lower id first at equal y"
  pub in_order : (c : Lent) → number c ≡ 0 → InOrder (list_after c)
  -- "Two records with one id and one y keep the order they came in": the records with this y and this id, as they stand, whatever the answer
  pub stable : (c : Lent) (y : ℤ) (id : ℕ) → those y id (list_after c) ≡ those y id c.list
  -- which says what list it is, whatever the definition of the sort: no other is in this order and keeps the records of each y and id as they came in
  pub only_order : (c : Lent) → number c ≡ 0
      → (l : List Actor) → InOrder l → ((y : ℤ) (id : ℕ) → those y id l ≡ those y id c.list) → l ≡ list_after c
  -- a second call leaves the list, whatever else is lent to it and whatever it answers
  pub second-list : (c d : Lent) → number c ≡ 0 → d.list ≡ list_after c → list_after d ≡ list_after c
  -- and is accepted on any frame of enough bytes
  pub second_call : (c : Lent) → number c ≡ 0 → (frame : List ℕ) → c.w * c.h ≤ length frame
      → number_in (list_after c) frame c.masks c.pictures c.w c.h c.n ≡ 0
  -- demand 2's sentence on actors, of a whole cast: a pixel of the room has the colour of the last actor in the list that shows one there
  pub topmost : (c : Lent) → number c ≡ 0 → (p q : ℕ) → p < c.w → q < c.h
      → (k v : ℕ) (none : Actor) → k < length (list_after c) → Shows c (get_or (list_after c) k none) p q v
      → ((j u : ℕ) → k < j → j < length (list_after c) → Shows c (get_or (list_after c) j none) p q u → ⊥)
      → get_or (frame_after c) (q * c.w + p) 0 ≡ v
  -- and stays where no actor shows any
  pub uncovered : (c : Lent) → number c ≡ 0 → (p q : ℕ) → p < c.w → q < c.h → (none : Actor)
      → ((j u : ℕ) → j < length (list_after c) → Shows c (get_or (list_after c) j none) p q u → ⊥)
      → get_or (frame_after c) (q * c.w + p) 0 ≡ get_or c.frame (q * c.w + p) 0
  -- bytes of the frame past the room stay, and so does its length, whatever the answer
  pub past_stays : (c : Lent) (i : ℕ) → c.w * c.h ≤ i → get_or (frame_after c) i 0 ≡ get_or c.frame i 0
  pub frame-length : (c : Lent) → length (frame_after c) ≡ length c.frame
