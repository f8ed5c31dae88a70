-- The stamp of an actor's picture (document 01, "Actors, points, limbs"): it writes pixels other than the clear index, in the frame and not
-- hidden, at signed (x + column, y + row). The clear index is 255 in document 01, and the caller's since change request 9. Assumes nothing.
use Rattle.std.specs.Prelude.{◌&&◌, ◌||◌, cond, List, ℕ, ◌+◌, ◌*◌, ◌/◌, ◌%◌, ◌≤◌, ◌<◌, ltb, eqb, ℤ, get_or, length}
use Rattle.grid.specs.Grid.{upd}
use Rattle.actor.specs.Sizes.{sizes_fit, picture_fits, buffers_fit, Planes}
use Rattle.actor.specs.Hidden.{hidden_at}
use Rattle.actor.specs.Corner.{covers, nth}
use Rattle.actor.specs.declared.corner.Span.{Span}

-- the picture's colour v at (x, y) of the frame, over o: o stays below a clear pixel and where the pixel is hidden
unfoldable pub blended : List ℕ → (w h n clear clip x y v o : ℕ) → ℕ
blended masks w h n clear clip x y v o = cond (eqb v clear || hidden_at masks w h n clip x y) o v

-- what the stamp makes of the frame's byte i, which is o: the byte is pixel (i mod w, i / w), unless i is past the frame's rows
unfoldable pub stamped : (masks picture : List ℕ) (w h n width height clear : ℕ) (x y : ℤ) (clip i o : ℕ) → ℕ
stamped masks picture w h n width height clear x y clip i o =
    cond (ltb (i / w) h && (covers y height (i / w) && covers x width (i % w)))
    (blended masks w h n clear clip (i % w) (i / w) (get_or picture (nth y (i / w) * width + nth x (i % w)) 0) o)
    o

-- the number of a call, by the lengths of its buffers: sizes, then lengths
unfoldable pub stamp_number : (frame masks picture w h n width height : ℕ) → ℕ
stamp_number frame masks picture w h n width height =
    cond (sizes_fit w h n && picture_fits width height) (cond (buffers_fit frame masks picture w h n width height) 0 4) 3

-- the frame after a call: stamped where it is accepted, else as it was
unfoldable pub stamp_frame : (frame masks picture : List ℕ) (w h n width height clear : ℕ) (x y : ℤ) (clip : ℕ) → List ℕ
stamp_frame frame masks picture w h n width height clear x y clip =
    cond (eqb (stamp_number (length frame) (length masks) (length picture) w h n width height) 0)
    (upd (stamped masks picture w h n width height clear x y clip) frame)
    frame

-- ---- for the proofs: no public promise rests on what follows

-- the pixel at column c and row r of the part of the picture that lies in the frame
unfoldable pub stamp_box : (masks picture : List ℕ) (w h n width clear clip : ℕ) (across down : Span) (c r o : ℕ) → ℕ
stamp_box masks picture w h n width clear clip across down c r o =
    blended masks w h n clear clip (across.start + c) (down.start + r) (get_or picture ((down.skip + r) * width + across.skip + c) 0) o

-- what the tests of a call leave: buffers of these lengths hold the frame, its planes and the picture
pub record Buffers (frame masks picture w h n width height : ℕ) : Type 0 where
  pub some : 0 < w
  pub room : w * h ≤ frame
  pub planes : Planes masks w h n
  pub narrow : width ≤ 128
  pub short : height ≤ 200
  pub all : width * height ≤ picture
